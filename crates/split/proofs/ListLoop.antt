-- What a turn of a loop that goes through a list or fills one does: a part grows by the next element or by a store, and
-- how far the loop has come. Assumes nothing.
use Prim.Native.Nat.{ℕ, suc, ◌+◌, ◌-◌, ◌<◌}
use mathlib.Core.Path.{◌≡◌, sym}
use mathlib.Core.List.{List, [], ◌∷◌, ◌++◌, map, map-append, append_assoc}
use native.Mathlib.Numerals.{add-one}
use native.Mathlib.Omega.{arith}
use lib.ListN.{length, get_or, take, set, replicate}
use lib.Seq.{take-suc, take-suc-set, set_at}

-- a store just past a part makes the part one longer
take-set_more : {A : Type 0} (l : List A) (i : ℕ) (x : A) → i < length l → take (i + 1) (set l i x) ≡ take i l ++ (x ∷ [])
take-set_more l i x h = rw add-one (take-suc-set l i x h)

-- also where others follow the part
pub store_next : {A : Type 0} (xs : List A) (n i : ℕ) (x z : A) → length xs ≡ i → i < n
    → set (xs ++ replicate (n - i) z) i x ≡ (xs ++ (x ∷ [])) ++ replicate (n - (i + 1)) z
store_next xs n i x z counted h =
    let left : n - i ≡ suc (n - (i + 1)) = omega arith in
    rw (left, set_at xs z (replicate (n - (i + 1)) z) x i counted, append_assoc)

-- a part and the next element are the longer part
pub take_next : {A : Type 0} (l : List A) (i : ℕ) (d : A) → i < length l → take (i + 1) l ≡ take i l ++ (get_or l i d ∷ [])
take_next l i d h = rw add-one (take-suc l i d h)

-- what is made of one more element and stored behind the filled part makes that part one longer
pub map_more : {A B : Type 0} (f : A → B) (xs : List A) (ys : List B) (i : ℕ) (x : A) → i < length ys → take i ys ≡ map f xs
    → take (i + 1) (set ys i (f x)) ≡ map f (xs ++ (x ∷ []))
map_more f xs ys i x h t = rw (take-set_more ys i (f x) h, t) (sym (map-append f xs (x ∷ [])))

-- one turn more leaves one fewer
pub one_fewer : (i n : ℕ) → i < n → n - i ≡ suc (n - (i + 1))
one_fewer i n h = omega arith
