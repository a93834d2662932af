-- The claim about every answer: within the bounds a lump by the age's own row in the scheme's own table, which is less than a penny
-- short of the sum for both pensions, and outside them the refusal. Assumes nothing.
use Prim.Native.Nat.{ℕ}
use mathlib.Core.Path.{◌≡◌, refl, sym, ◌∙◌}
use mathlib.Core.Logic.{inl, inr}
use mathlib.Core.Bool.{true, ◌||◌, true≢false}
use native.Mathlib.Omega.{arith}
use Rattle.calendar.proofs.TestsLaws.{by_test}
use Rattle.trivial_commutation.specs.TrivialCommutation.{lump_sum, uses_table_1, uses_table_2, table_of, row_of, refused, trivial_commutation, OwnTable, Commutable, CommutedByOwnRow, CommutationClaim}
use Rattle.trivial_commutation.proofs.OwnRow.{by_table, scheme_ages}
use Rattle.trivial_commutation.proofs.TrivialCommutationLaws.{table_1_year, table_2_year, scheme_listed, commutable, not_refused}

-- "1987 uses Table 1; 2006 and 2015 use Table 2"
own_table : (scheme : ℕ) → (uses_table_1 scheme || uses_table_2 scheme) ≡ true → OwnTable scheme (table_of scheme)
own_table scheme t =
    by_table (OwnTable scheme) scheme (λ e. inl (table_1_year scheme e, refl)) (λ e. inr (table_2_year scheme e, refl))
    (λ f. absurd (true≢false (sym t ∙ f)))

-- the lump of what is commutable
by_own_row : (scheme age member survivor : ℕ) → (uses_table_1 scheme || uses_table_2 scheme) ≡ true
    → Commutable scheme age member survivor
    → CommutedByOwnRow scheme age member survivor (lump_sum (row_of (table_of scheme) age).factors member survivor)
unfolding lump_sum
by_own_row scheme age member survivor listed c = record {
  table = table_of scheme;
  by = row_of (table_of scheme) age;
  own_table = own_table scheme listed;
  own_row = (scheme_ages scheme listed).own age c.age_low c.age_high;
  covered = omega arith;
  most = omega arith;
}

pub commutation_claim : (scheme age member survivor : ℕ)
    → CommutationClaim scheme age member survivor (trivial_commutation scheme age member survivor)
unfolding trivial_commutation
commutation_claim scheme age member survivor =
    by_test (CommutationClaim scheme age member survivor) (refused scheme age member survivor) _ _
    (λ e. record {
      granted = λ c. absurd (true≢false (sym e ∙ not_refused scheme age member survivor c));
      outside = λ out. (refl, refl);
    })
    (λ e. record {
      granted = λ c. (refl, by_own_row scheme age member survivor (scheme_listed scheme age member survivor e) c);
      outside = λ out. absurd (out (commutable scheme age member survivor e));
    })
