-- Laws of the case: its pensions are as many as are counted, and grow by one at the end. Assumes nothing.
use mathlib.Core.Path.{◌≡◌, refl}
use mathlib.Core.List.{List, [], ◌∷◌, ◌++◌}
use Prim.Native.Nat.{ℕ, zero, suc, ◌+◌}
use native.Mathlib.Numerals.{add-one}
use native.Mathlib.Omega.{arith}
use lib.ListN.{length, length-append}
use Rattle.split.specs.declared.case.Pension.{Pension}
use Rattle.split.specs.Case.{pension_at, pensions_at, pension_length, case_length}
use Rattle.split.specs.Bytes.{FieldOf, Taken}

-- one pension more
pensions_more : (s : List ℕ) (k : ℕ) → pensions_at s (k + 1) ≡ pensions_at s k ++ (pension_at s (case_length k) ∷ [])
unfolding pensions_at
pensions_more s k = rw add-one

-- as many pensions as are counted
pub pensions_counted : (s : List ℕ) (n : ℕ) → length (pensions_at s n) ≡ n
unfolding pensions_at
pensions_counted s zero = refl
pensions_counted s (suc n) =
    omega (arith, pensions_counted s n, length-append (pensions_at s n) (pension_at s (case_length n) ∷ []))

-- a pension read behind those before it
pub pensions_read : (b : List ℕ) (ps : List Pension) (k at end : ℕ) (p : Pension) → at ≡ case_length k
    → FieldOf b at ps (λ s. pensions_at s k) → Taken b at pension_at pension_length p end
    → FieldOf b end (ps ++ (p ∷ [])) (λ s. pensions_at s (k + 1))
pensions_read b ps k at end p start before read s bytes within =
    rw (pensions_more, before s bytes (omega (arith, read.next)), read.value s bytes within, start)
