-- Tests: of some element of a list, of a range, and the lowest of numbered conditions. Assumes nothing.
use Rattle.std.specs.Prelude.{ℕ, suc, Bool, false, cond, ◌&&◌, ◌||◌, List, [], ◌∷◌, leb}

-- the test holds of some element
abbrev pub any {ℓ} : {A : Type ℓ} → (A → Bool) → List A → Bool
any f [] = false
any f (x ∷ xs) = f x || any f xs

-- from low to high, both included
abbrev pub within : ℕ → ℕ → ℕ → Bool
within low high x = leb low x && leb x high

-- "The lowest that applies is given", counted from k; "Zero stands for no refusal"
abbrev pub lowest : ℕ → List Bool → ℕ
lowest k [] = 0
lowest k (b ∷ bs) = cond b k (lowest (suc k) bs)
