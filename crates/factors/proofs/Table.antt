-- Tables: a list that is a function's values holds, at each place, the function's value there; and a test that
-- antt computes over all numbers below a bound holds of each. Assumes nothing.
use mathlib.Core.Path.{◌≡◌, ◌∙◌, ap}
use mathlib.Core.Logic.{⊎_elim}
use mathlib.Core.Bool.{Bool, true, ◌&&◌}
use mathlib.Core.List.{List, [], ◌∷◌}
use Prim.Native.Nat.{ℕ, zero, suc, ◌+◌, ◌<◌}
use native.Mathlib.Nat.{zero-add, add-zero, add-suc, suc-add, le_of_suc-le-suc, eq-or-lt_of_le, not-suc-le-zero}
use lib.ListN.{get_or}
use Rattle.calendar.proofs.TestsLaws.{and_left, and_right}

-- n values of f, from i on
abbrev pub tabulate : (ℕ → ℕ) → ℕ → ℕ → List ℕ
tabulate f i zero = []
tabulate f i (suc n) = f i ∷ tabulate f (suc i) n

tabulate_from : (f : ℕ → ℕ) (i n k : ℕ) → k < n → get_or (tabulate f i n) k 0 ≡ f (i + k)
tabulate_from f i zero k h = absurd (not-suc-le-zero h)
tabulate_from f i (suc n) zero h = simp add-zero
tabulate_from f i (suc n) (suc k) h = simp (tabulate_from f (suc i) n k (le_of_suc-le-suc h), add-suc, suc-add)

pub tabulate_at : (f : ℕ → ℕ) (n k : ℕ) → k < n → get_or (tabulate f 0 n) k 0 ≡ f k
tabulate_at f n k h = simp (tabulate_from f 0 n k h, zero-add)

-- the test holds of every number below n
abbrev pub below : ℕ → (ℕ → Bool) → Bool
below zero f = true
below (suc n) f = f n && below n f

pub below_at : (n : ℕ) (f : ℕ → Bool) → below n f ≡ true → (k : ℕ) → k < n → f k ≡ true
below_at zero f t k h = absurd (not-suc-le-zero h)
below_at (suc n) f t k h =
    ⊎_elim
    (λ e. ap f e ∙ and_left (f n) (below n f) t)
    (λ l. below_at n f (and_right (f n) (below n f) t) k l)
    (eq-or-lt_of_le (le_of_suc-le-suc h))
