-- The limits of a split ("Split" of document 01): caps, the exact limit, the price and the priced limit, over the pensions of
-- a case, as many as there are; and the allowance (request [2] of document 02). A split is a list of natural numbers. Assumes
-- nothing.
use Rattle.std.specs.Prelude.{ℕ, ◌+◌, ◌-◌, ◌*◌, ◌/◌, ◌≤◌, List, [], ◌∷◌}
use Rattle.calendar.specs.Sums.{sum_of}
use Rattle.factors.specs.declared.effective.Factor.{Factor}
use Rattle.split.specs.Allowance.{Allowance}
use Rattle.split.specs.declared.limits.Benefit.{Benefit}
use Rattle.split.specs.Allowance.{KeepsAllowance}

-- the pension that stands for none
abbrev pub no_benefit : Benefit
no_benefit =
    record { pension = record { 0 = 0 }; factor = record { top = 0; bottom = 0 }; cap = record { 0 = 0 } }

-- "its total is their sum"
abbrev pub total : List ℕ → ℕ
total xs = sum_of (λ x. x) xs

-- x/y rounded up to a whole number
abbrev pub rounded_up : ℕ → ℕ → ℕ
rounded_up x y = (x + (y - 1)) / y

-- "Price of one penny of lump, in billionths: 3,000,000,000 plus 20,000,000,000/E rounded up"
unfoldable pub price_of : Factor → ℕ
price_of e = 3000000000 + rounded_up (20000000000 * e.bottom) e.top

-- the sum of P over the pensions of the case
abbrev pub total_pension : List Benefit → ℕ
total_pension bs = sum_of (λ b. b.pension.0) bs

-- the sum of the caps, which no split within them exceeds
abbrev pub total_cap : List Benefit → ℕ
total_cap bs = sum_of (λ b. b.cap.0) bs

-- "A split gives each pension of the case, and no other, a lump": one number a pension, each at most its cap
abbrev pub WithinCaps : List Benefit → List ℕ → Type 0
WithinCaps [] [] = Unit
WithinCaps [] (x ∷ xs) = ⊥
WithinCaps (b ∷ bs) [] = ⊥
WithinCaps (b ∷ bs) (x ∷ xs) = (x ≤ b.cap.0) × WithinCaps bs xs

-- "the sum of lump × price"
abbrev pub spend : List Benefit → List ℕ → ℕ
spend [] xs = 0
spend (b ∷ bs) [] = 0
spend (b ∷ bs) (x ∷ xs) = x * price_of b.factor + spend bs xs

-- "at most 20,000,000,000 times the sum of P"
abbrev pub priced_limit : List Benefit → ℕ
priced_limit bs = 20000000000 * total_pension bs

-- What a split keeps, a grant's or a rival's: the caps, the allowance of its case, and a limit of what it costs.
pub record Kept (a : Allowance) (cost : List ℕ → ℕ) (limit : ℕ) (bs : List Benefit) (xs : List ℕ) : Type 0 where
  pub caps : WithinCaps bs xs
  pub allowance : KeepsAllowance a (total xs)
  pub within : cost xs ≤ limit

-- it keeps caps, allowance and the priced limit
abbrev pub KeepsPriced : Allowance → List Benefit → List ℕ → Type 0
KeepsPriced a bs xs = Kept a (spend bs) (priced_limit bs) bs xs

-- the product of every top of the case
abbrev pub tops : List Benefit → ℕ
tops [] = 1
tops (b ∷ bs) = b.factor.top * tops bs

-- the sum of lump × (3 + 20/E), times every top of the case: of a pension with E = top/bottom the top of its
-- own is used up by 3 × top + 20 × bottom, and the others remain
abbrev pub exact_cost : List Benefit → List ℕ → ℕ
exact_cost [] xs = 0
exact_cost (b ∷ bs) [] = 0
exact_cost (b ∷ bs) (x ∷ xs) =
    x * (3 * b.factor.top + 20 * b.factor.bottom) * tops bs + b.factor.top * exact_cost bs xs

-- it keeps caps, allowance and the exact limit, "at most 20 times the sum of P", times every top of the case
abbrev pub KeepsExact : Allowance → List Benefit → List ℕ → Type 0
KeepsExact a bs xs = Kept a (exact_cost bs) (20 * total_pension bs * tops bs) bs xs

-- every top is positive
abbrev pub PositiveTops : List Benefit → Type 0
PositiveTops [] = Unit
PositiveTops (b ∷ bs) = (1 ≤ b.factor.top) × PositiveTops bs

-- What is claimed of a grant: it keeps the caps, the allowance and both limits, and no split that keeps the caps and the
-- allowance does better under the priced limit, nor by more than a penny under the exact one. "The best split is now the best
-- among splits that also keep the allowance, rivals included." Rivals are all lists of natural numbers.
pub record Best (a : Allowance) (bs : List Benefit) (xs : List ℕ) : Type 0 where
  -- nothing is lost by multiplying with the tops
  pub tops : PositiveTops bs
  pub priced : KeepsPriced a bs xs
  pub exact : KeepsExact a bs xs
  pub best : (ys : List ℕ) → KeepsPriced a bs ys → total ys ≤ total xs
  pub nearly : (ys : List ℕ) → KeepsExact a bs ys → total ys ≤ total xs + 1
