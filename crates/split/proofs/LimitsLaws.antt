-- Laws of splits within the caps: of their total, and of each lump. Assumes nothing.
use Prim.Native.Nat.{ℕ, zero, suc, ◌≤◌}
use mathlib.Core.List.{List, [], ◌∷◌}
use native.Mathlib.Omega.{arith}
use lib.ListN.{get_or}
use Rattle.split.specs.declared.limits.Benefit.{Benefit}
use Rattle.split.specs.Limits.{no_benefit, total, total_cap, WithinCaps}

-- a split within the caps has at most their sum for its total
pub total_capped : (bs : List Benefit) (xs : List ℕ) → WithinCaps bs xs → total xs ≤ total_cap bs
total_capped [] [] h = omega arith
total_capped [] (x ∷ xs) h = absurd h
total_capped (b ∷ bs) [] h = absurd h
total_capped (b ∷ bs) (x ∷ xs) h = omega (arith, total_capped bs xs h.1)

-- and at each place at most its cap
pub caps_at : (bs : List Benefit) (xs : List ℕ) → WithinCaps bs xs → (j : ℕ) → get_or xs j 0 ≤ (get_or bs j no_benefit).cap.0
caps_at [] [] h j = omega arith
caps_at [] (x ∷ xs) h j = absurd h
caps_at (b ∷ bs) [] h j = absurd h
caps_at (b ∷ bs) (x ∷ xs) h zero = h.0
caps_at (b ∷ bs) (x ∷ xs) h (suc j) = caps_at bs xs h.1 j
