-- Laws of sums: over two lists one after the other, with one more element, of a part, and of one element. By induction on
-- the list. Assumes nothing.
use Prim.Native.Nat.{ℕ, zero, suc, ◌+◌, ◌≤◌, ◌<◌}
use mathlib.Core.Path.{◌≡◌, ◌∙◌}
use mathlib.Core.List.{List, [], ◌∷◌, ◌++◌}
use native.Mathlib.Numerals.{add-one}
use native.Mathlib.Omega.{arith}
use lib.ListN.{length, get_or, take}
use lib.Seq.{take-suc}
use Rattle.calendar.specs.Sums.{sum_of}

module _ {A : Type 0} (f : A → ℕ) where
  pub sum_append : (l m : List A) → sum_of f (l ++ m) ≡ sum_of f l + sum_of f m
  sum_append [] m = omega arith
  sum_append (x ∷ l) m = omega (arith, sum_append l m)

  -- one more element at the end, and the next element of a part
  pub sum_more : (l : List A) (x : A) → sum_of f (l ++ (x ∷ [])) ≡ sum_of f l + f x
  sum_more l x = sum_append l (x ∷ []) ∙ omega arith

  pub sum_next : (l : List A) (d : A) (i t : ℕ) → i < length l → t ≡ sum_of f (take i l)
      → t + f (get_or l i d) ≡ sum_of f (take (i + 1) l)
  sum_next l d i t h e = rw (add-one, take-suc l i d h, sum_more (take i l) (get_or l i d), e)

  -- a part sums to no more than a longer one
  pub sum_part : (l : List A) (i n : ℕ) → i ≤ n → sum_of f (take i l) ≤ sum_of f (take n l)
  sum_part l zero n h = omega arith
  sum_part l (suc i) zero h = absurd (omega arith)
  sum_part [] (suc i) (suc n) h = omega arith
  sum_part (x ∷ l) (suc i) (suc n) h = omega (arith, sum_part l i n (omega arith))

  -- so with its next element it is within the whole
  pub sum_within : (l : List A) (d : A) (i n t : ℕ) → i < length l → i < n → t ≡ sum_of f (take i l)
      → t + f (get_or l i d) ≤ sum_of f (take n l)
  sum_within l d i n t place h e = omega (arith, sum_next l d i t place e, sum_part l (i + 1) n (omega arith))

  -- an element's number is at most the sum
  pub sum_at : (l : List A) (d : A) (j : ℕ) → j < length l → f (get_or l j d) ≤ sum_of f l
  sum_at [] d j h = absurd (omega arith)
  sum_at (x ∷ l) d zero h = omega arith
  sum_at (x ∷ l) d (suc j) h = omega (arith, sum_at l d j (omega arith))
