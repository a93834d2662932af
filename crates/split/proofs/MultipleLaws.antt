-- A factor whose top and bottom are multiplied by one number gives the same cap, price and pension given up: the code works
-- with such a multiple, the definitions with the factor itself. Assumes nothing.
use Prim.Native.Nat.{ℕ, ◌+◌, ◌-◌, ◌*◌, ◌/◌, ◌<◌}
use mathlib.Core.Path.{◌≡◌}
use native.Mathlib.Nat.{zero-add, mul_left_comm, mul-add, mul-sub, mul-le-mul_left, mul-div-mul_left, div-div-eq-div-mul, add-mul-div_left, div-eq_of_lt}
use native.Mathlib.Omega.{arith}
use Rattle.factors.specs.declared.effective.Factor.{Factor}
use Rattle.factors.specs.Effective.{multiple}
use Rattle.split.specs.Benefits.{quarter_lump}
use Rattle.split.specs.Limits.{rounded_up, price_of}

pub quarter_multiple : (m pension : ℕ) (e : Factor) → 0 < m → quarter_lump pension (multiple m e) ≡ quarter_lump pension e
unfolding quarter_lump multiple
quarter_multiple m pension e positive =
    rw (mul_left_comm pension m, mul_left_comm 4 m) (mul-div-mul_left (pension * e.top) (4 * e.bottom) positive)

pub given_up_multiple : (m lump : ℕ) (e : Factor) → 0 < m
    → lump * (multiple m e).bottom / (multiple m e).top ≡ lump * e.bottom / e.top
unfolding multiple
given_up_multiple m lump e positive =
    rw (mul_left_comm lump m) (mul-div-mul_left (lump * e.bottom) e.top positive)

-- a quotient rounded up: its dividend is m times the one without the multiple, and less than m more
rounded_multiple : (m x y : ℕ) → 0 < m → 0 < y → rounded_up (m * x) (m * y) ≡ rounded_up x y
rounded_multiple m x y p q =
    let more : m * x + (m * y - 1) ≡ m - 1 + m * (x + (y - 1)) = omega (arith, mul-add m x (y - 1), mul-sub m y 1, mul-le-mul_left m q) in
    rw (more, ← div-div-eq-div-mul, add-mul-div_left (m - 1) (x + (y - 1)) p, div-eq_of_lt {n = m - 1} {m = m} (omega arith), zero-add)

pub price_multiple : (m : ℕ) (e : Factor) → 0 < m → 0 < e.top → price_of (multiple m e) ≡ price_of e
unfolding price_of multiple
price_multiple m e p q = rw (mul_left_comm 20000000000 m, rounded_multiple m (20000000000 * e.bottom) e.top p q)
