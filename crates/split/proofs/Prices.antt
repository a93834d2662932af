-- The price against the exact cost: a price times its top is at least 3 tops and 20 bottoms, in billionths, and
-- at most a top more. Summed over the pensions, with the product of the tops, this compares what a split spends
-- with its exact cost. Assumes nothing.
use Prim.Native.Nat.{ℕ, ◌+◌, ◌-◌, ◌*◌, ◌≤◌}
use mathlib.Core.List.{List, [], ◌∷◌}
use native.Mathlib.Nat
use native.Mathlib.Omega.{arith}
use Rattle.factors.specs.declared.effective.Factor.{Factor}
use Rattle.split.specs.Allowance.{Allowance}
use Rattle.split.specs.declared.limits.Benefit.{Benefit}
use Rattle.split.specs.Limits.{rounded_up, total, price_of, spend, priced_limit, Kept, KeepsPriced, tops, exact_cost, KeepsExact, PositiveTops}

pub ruleset ring = (Nat.add-mul, Nat.mul-add, Nat.mul_assoc, Nat.mul_comm, Nat.mul_left_comm)

-- every price is at least three billion billionths
pub price_floor : (e : Factor) → 3000000000 ≤ price_of e
unfolding price_of
price_floor e = omega arith

-- a quotient rounded up covers its dividend, and is at most a divisor over it
rounded_covers : (x y : ℕ) → 1 ≤ y → x ≤ rounded_up x y * y
rounded_covers x y positive = omega (arith, Nat.lt-div-mul-add {a = x + (y - 1)} positive)

rounded_near : (x y : ℕ) → rounded_up x y * y ≤ x + y
rounded_near x y = Nat.le_trans (Nat.div-mul-le_self _ y) (omega arith)

-- a price times its top is at least 3 tops and 20 bottoms, in billionths
pub price_covers : (e : Factor) → 1 ≤ e.top → 3000000000 * e.top + 20000000000 * e.bottom ≤ price_of e * e.top
unfolding price_of
price_covers e positive = rw Nat.add-mul (omega (arith, rounded_covers (20000000000 * e.bottom) e.top positive))

-- and at most a top more
price_near : (e : Factor) → price_of e * e.top ≤ 3000000000 * e.top + 20000000000 * e.bottom + e.top
unfolding price_of
price_near e = rw Nat.add-mul (omega (arith, rounded_near (20000000000 * e.bottom) e.top))

-- the product of positive tops is positive
tops_positive : (bs : List Benefit) → PositiveTops bs → 1 ≤ tops bs
tops_positive [] h = omega arith
tops_positive (b ∷ bs) h = Nat.one-le-mul h.0 (tops_positive bs h.1)

-- One pension more, over plain numbers: x pence at the price p of the factor t / b, before others of exact cost c, spend s,
-- total n and tops u.
covers_more : (x p t b c s u : ℕ) → 3000000000 * t + 20000000000 * b ≤ p * t → c * 1000000000 ≤ s * u
    → (x * (3 * t + 20 * b) * u + t * c) * 1000000000 ≤ (x * p + s) * (t * u)
covers_more x p t b c s u h k =
    simp ring (omega (arith, simp ring at (Nat.mul-le-mul_left (x * u) h), simp ring at (Nat.mul-le-mul_left t k)))

near_more : (x p t b c s u n : ℕ) → p * t ≤ 3000000000 * t + 20000000000 * b + t → s * u ≤ c * 1000000000 + n * u
    → (x * p + s) * (t * u) ≤ (x * (3 * t + 20 * b) * u + t * c) * 1000000000 + (x + n) * (t * u)
near_more x p t b c s u n h k =
    simp ring (omega (arith, simp ring at (Nat.mul-le-mul_left (x * u) h), simp ring at (Nat.mul-le-mul_left t k)))

-- what a split spends covers its exact cost
spend_covers : (bs : List Benefit) (xs : List ℕ) → PositiveTops bs → exact_cost bs xs * 1000000000 ≤ spend bs xs * tops bs
spend_covers [] xs h = omega arith
spend_covers (b ∷ bs) [] h = omega (arith, Nat.zero-mul (tops (b ∷ bs)))
spend_covers (b ∷ bs) (x ∷ xs) h =
    covers_more x (price_of b.factor) b.factor.top b.factor.bottom (exact_cost bs xs) (spend bs xs) (tops bs)
    (price_covers b.factor h.0) (spend_covers bs xs h.1)

-- and is over it by at most its total
spend_near : (bs : List Benefit) (xs : List ℕ) → spend bs xs * tops bs ≤ exact_cost bs xs * 1000000000 + total xs * tops bs
spend_near [] xs = omega arith
spend_near (b ∷ bs) [] = omega (arith, Nat.zero-mul (tops (b ∷ bs)))
spend_near (b ∷ bs) (x ∷ xs) =
    near_more x (price_of b.factor) b.factor.top b.factor.bottom (exact_cost bs xs) (spend bs xs) (tops bs) (total xs)
    (price_near b.factor) (spend_near bs xs)

-- a split that keeps the priced limit keeps the exact one
pub priced_exact : {a : Allowance} (bs : List Benefit) (xs : List ℕ) → PositiveTops bs → KeepsPriced a bs xs → KeepsExact a bs xs
priced_exact bs xs h k = record {
  caps = k.caps;
  allowance = k.allowance;
  within =
      simp ring (omega (arith, simp ring at (spend_covers bs xs h), simp ring at (Nat.mul-le-mul_left (tops bs) k.within)));
}

-- a split that keeps the exact limit is over the priced one by at most its total
pub exact_priced : {a : Allowance} (bs : List Benefit) (xs : List ℕ) → PositiveTops bs → KeepsExact a bs xs
    → Kept a (spend bs) (priced_limit bs + total xs) bs xs
exact_priced bs xs h k = record {
  caps = k.caps;
  allowance = k.allowance;
  within =
      Nat.le_of_mul-le-mul_right {k = tops bs}
      (simp ring (omega (arith, simp ring at (spend_near bs xs), simp ring at k.within)))
      (tops_positive bs h);
}
