-- Laws of a pension as the limits see it: a cap is at most a quarter's lump, which is at most twenty pensions, and the cap and
-- the terms that the code chooses are those of the definitions. Assumes nothing.
use Prim.Native.Nat.{ℕ, ◌*◌, ◌≤◌}
use mathlib.Core.Bool.{Bool, true, false}
use mathlib.Core.Path.{◌≡◌, sym, ◌∙◌}
use native.Mathlib.Nat.{div-le_of_le-mul, mul-le-mul_left}
use native.Mathlib.Omega.{arith}
use borrow.Author.Tests.{eq-eqb, ne_eqb}
use Rattle.factors.specs.declared.effective.FactorTerms.{FactorTerms}
use Rattle.factors.specs.declared.effective.Factor.{Factor}
use Rattle.factors.specs.Effective.{FactorRange}
use Rattle.factors.specs.Commutation.{table1, commutation_factor}
use Rattle.factors.proofs.CommutationLaws.{looked_up, as_given}
use Rattle.split.specs.Benefits.{quarter_lump, worked_terms, cap_of}
use Rattle.split.proofs.Prices.{ring}

-- a quarter's lump is at most twenty pensions
pub quarter_at_most : (pension : ℕ) (e : Factor) → FactorRange e → quarter_lump pension e ≤ 20 * pension
unfolding quarter_lump
quarter_at_most pension e r =
    div-le_of_le-mul (4 * e.bottom) (simp ring (omega (arith, simp ring at (mul-le-mul_left pension r.most))))

-- and a cap at most that
pub cap_quarter : (limited : Bool) (pension : ℕ) (e : Factor) → cap_of limited pension e ≤ quarter_lump pension e
unfolding cap_of
cap_quarter true pension e = omega arith
cap_quarter false pension e = omega arith

-- terms with F1 as given, or the table's factor at the age
pub terms_looked_up : (age found : ℕ) (t : FactorTerms) → t.f1 ≡ 0 → found ≡ table1 age
    → ◌≡◌ {A = FactorTerms} (record { f1 = found; f2 = t.f2; f3 = t.f3; increase = t.increase }) (worked_terms age t)
unfolding worked_terms
terms_looked_up age found t none e =
    let f1 : found ≡ commutation_factor t.f1 age = e ∙ sym (looked_up t.f1 age (eq-eqb t.f1 0 none)) in
    λ i. record { f1 = f1 i; f2 = t.f2; f3 = t.f3; increase = t.increase }

pub terms_given : (age : ℕ) (t : FactorTerms) → (t.f1 ≡ 0 → ⊥)
    → ◌≡◌ {A = FactorTerms} (record { f1 = t.f1; f2 = t.f2; f3 = t.f3; increase = t.increase }) (worked_terms age t)
unfolding worked_terms
terms_given age t some =
    let f1 : t.f1 ≡ commutation_factor t.f1 age = sym (as_given t.f1 age (ne_eqb t.f1 0 some)) in
    λ i. record { f1 = f1 i; f2 = t.f2; f3 = t.f3; increase = t.increase }
