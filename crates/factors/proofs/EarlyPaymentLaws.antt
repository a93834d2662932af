-- Laws of the early payment reduction for the crates above: the range of Table A, that a reduction is by its entry where it
-- holds the months, and that it never adds. Assumes nothing.
use mathlib.Core.Path.{◌≡◌, refl}
use mathlib.Core.Bool.{◌&&◌}
use Prim.Native.Nat.{ℕ, ◌*◌, ◌/◌, ◌≤◌, ◌<◌}
use native.Mathlib.Nat.{mul-le-mul_left, le_of_lt, div-le_of_le-mul}
use native.Mathlib.Decide.{dec_lt}
use native.Mathlib.Omega.{arith}
use lib.Dec.{leb}
use lib.ListN.{length, get_or, get_or-eq_default}
use Rattle.calendar.proofs.TestsLaws.{within_bounds}
use Rattle.factors.specs.EarlyPayment.{table_a, early_payment_factor, reduced_pension}
use Rattle.factors.proofs.Table.{below_at}

-- Table A at the months it holds, and everywhere below one
early_payment_range : (months : ℕ) → months ≤ 60 → (775 ≤ early_payment_factor months) × (early_payment_factor months ≤ 998)
unfolding early_payment_factor table_a
early_payment_range months high =
    within_bounds 775 998 (early_payment_factor months)
    (below_at 61 (λ (k : ℕ). leb 775 (early_payment_factor k) && leb (early_payment_factor k) 998) refl months (omega arith))

pub early_payment_below : (months : ℕ) → early_payment_factor months < 1000
unfolding early_payment_factor table_a
early_payment_below months =
    elim (dec_lt months 61) [
      | yes h ↦ omega (arith, early_payment_range months (omega arith))
      | no h ↦ omega (arith, get_or-eq_default table_a 0 {n = months} (omega arith))
    ]

-- at months that it holds a reduction is by its entry, and meets no default
pub reduced_by_entry : (stated months : ℕ) → months ≤ 60
    → (months < length table_a) × ((775 ≤ get_or table_a months 0) × (get_or table_a months 0 ≤ 998))
    × (reduced_pension stated months ≡ stated * get_or table_a months 0 / 1000)
unfolding reduced_pension early_payment_factor table_a
reduced_by_entry stated months high = (omega arith, early_payment_range months high, refl)

pub reduced_at_most : (stated months : ℕ) → reduced_pension stated months ≤ stated
unfolding reduced_pension
reduced_at_most stated months =
    div-le_of_le-mul 1000 (omega (arith, mul-le-mul_left stated (le_of_lt (early_payment_below months))))
