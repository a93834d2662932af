-- Laws of the commutation factor for the crates above: the range of Table 1, and of F1 given or looked up. Assumes nothing.
use mathlib.Core.Path.{◌≡◌, refl}
use mathlib.Core.Bool.{Bool, true, false, ◌&&◌}
use Prim.Native.Nat.{ℕ, ◌-◌, ◌≤◌}
use native.Mathlib.Omega.{arith}
use lib.Dec.{leb, eqb}
use borrow.Author.Tests.{le-leb, eqb-true, eqb-false}
use Rattle.calendar.proofs.TestsLaws.{within_bounds}
use Rattle.factors.specs.Commutation.{table1, commutation_factor, straight_line, year_values}
use Rattle.factors.proofs.Table.{below_at}

-- Table 1 at the ages it holds
table1_range : (age : ℕ) → 636 ≤ age → age ≤ 875 → (1306 ≤ table1 age) × (table1 age ≤ 2540)
unfolding table1 straight_line year_values
table1_range age low high =
    simp (le-leb 636 age low, le-leb age 875 high)
    (within_bounds 1306 2540 (straight_line (age - 636))
    (below_at 240 (λ (k : ℕ). leb 1306 (straight_line k) && leb (straight_line k) 2540) refl (age - 636) (omega arith)))

-- F1, given or looked up
pub looked_up : (given age : ℕ) → eqb given 0 ≡ true → commutation_factor given age ≡ table1 age
unfolding commutation_factor
looked_up given age e = simp e

pub as_given : (given age : ℕ) → eqb given 0 ≡ false → commutation_factor given age ≡ given
unfolding commutation_factor
as_given given age e = simp e

pub commutation_range : (given age : ℕ) → (given ≡ 0 → (636 ≤ age) × (age ≤ 875))
    → ((given ≡ 0 → ⊥) → (500 ≤ given) × (given ≤ 4000))
    → (500 ≤ commutation_factor given age) × (commutation_factor given age ≤ 4000)
commutation_range given age listed stated = go (eqb given 0) refl
  where
    go : (b : Bool) → eqb given 0 ≡ b → (500 ≤ commutation_factor given age) × (commutation_factor given age ≤ 4000)
    go true e =
        let r = listed (eqb-true given 0 e) in
        rw (looked_up given age e) (omega (arith, table1_range age r.0 r.1))
    go false e = rw (as_given given age e) (stated (eqb-false given 0 e))
