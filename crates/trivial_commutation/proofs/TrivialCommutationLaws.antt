-- Laws of trivial commutation: what is not refused is commutable, and what is commutable is not refused. Assumes nothing.
use Prim.Native.Nat.{ℕ, ◌≤◌}
use mathlib.Core.Path.{◌≡◌, refl}
use mathlib.Core.Logic.{◌⊎◌, inl, inr, ⊎_elim}
use mathlib.Core.Bool.{Bool, true, false, ◌||◌, or-true}
use native.Mathlib.Omega.{arith}
use lib.Dec.{eqb}
use borrow.Author.Tests.{leb-true, le-leb, eqb-true, eq-eqb, not-false}
use Rattle.calendar.specs.Tests.{within}
use Rattle.calendar.proofs.TestsLaws.{and_left, and_right, or_left, or_right, within_bounds}
use Rattle.trivial_commutation.specs.TrivialCommutation.{uses_table_1, uses_table_2, bad_age, bad_scheme, bad_pension, refused, Commutable}

-- one of two tests
pub one_of : (a b : Bool) → (a || b) ≡ true → (a ≡ true) ⊎ (b ≡ true)
one_of true b t = inl refl
one_of false b t = inr t

-- the years by which a scheme uses a table
pub table_1_year : (scheme : ℕ) → uses_table_1 scheme ≡ true → scheme ≡ 1987
unfolding uses_table_1
table_1_year scheme t = eqb-true scheme 1987 t

pub table_2_year : (scheme : ℕ) → uses_table_2 scheme ≡ true → (scheme ≡ 2006) ⊎ (scheme ≡ 2015)
unfolding uses_table_2
table_2_year scheme t =
    ⊎_elim (λ e. inl (eqb-true scheme 2006 e)) (λ e. inr (eqb-true scheme 2015 e)) (one_of (eqb scheme 2006) (eqb scheme 2015) t)

module _ (scheme age member survivor : ℕ) (e : refused scheme age member survivor ≡ false) where
  -- the three tests
  age_test : bad_age age ≡ false
  unfolding refused
  age_test = or_left (bad_age age) _ e

  scheme_test : bad_scheme scheme ≡ false
  unfolding refused
  scheme_test = or_left (bad_scheme scheme) _ (or_right (bad_age age) _ e)

  pension_test : bad_pension member survivor ≡ false
  unfolding refused
  pension_test = or_right (bad_scheme scheme) _ (or_right (bad_age age) _ e)

  pub scheme_listed : (uses_table_1 scheme || uses_table_2 scheme) ≡ true
  unfolding bad_scheme
  scheme_listed = not-false _ scheme_test

  pub pensions_listed : (member ≤ 50000000) × (survivor ≤ 50000000)
  unfolding bad_pension
  pensions_listed =
      let t = not-false _ pension_test in
      let members = within_bounds _ _ member (and_left (within _ _ member) _ t) in
      omega (arith, members, leb-true survivor _ (and_right (within _ _ member) _ t))

  pub commutable : Commutable scheme age member survivor
  unfolding bad_age bad_pension
  commutable =
      let ages = within_bounds _ _ age (not-false _ age_test) in
      record {
        of_scheme = ⊎_elim (λ t. inl (table_1_year scheme t)) (λ t. inr (table_2_year scheme t)) (one_of _ _ scheme_listed);
        age_low = omega (arith, ages);
        age_high = omega (arith, ages);
        member_low = omega (arith, within_bounds _ _ member (and_left (within _ _ member) _ (not-false _ pension_test)));
        member_high = pensions_listed.0;
        survivor_high = pensions_listed.1;
      }

-- a scheme of one of the years uses a table
uses_a_table : (scheme : ℕ) → (scheme ≡ 1987) ⊎ ((scheme ≡ 2006) ⊎ (scheme ≡ 2015)) → (uses_table_1 scheme || uses_table_2 scheme) ≡ true
unfolding uses_table_1 uses_table_2
uses_a_table scheme =
    ⊎_elim (λ e. simp (eq-eqb scheme 1987 e))
    (⊎_elim (λ e. simp (eq-eqb scheme 2006 e, or-true)) (λ e. simp (eq-eqb scheme 2015 e, or-true)))

pub not_refused : (scheme age member survivor : ℕ) → Commutable scheme age member survivor
    → refused scheme age member survivor ≡ false
unfolding bad_age bad_scheme bad_pension refused
not_refused scheme age member survivor c =
    simp (
      uses_a_table scheme c.of_scheme,
      le-leb 60 age c.age_low,
      le-leb age 99 c.age_high,
      le-leb 1 member c.member_low,
      le-leb member 50000000 c.member_high,
      le-leb survivor 50000000 c.survivor_high,
    )
