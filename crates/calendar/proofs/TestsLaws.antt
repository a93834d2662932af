-- Laws of tests: both parts of "and" and of "or", a test of some element of a list by its places, by the next element, by
-- one more at the end, over two lists or by two parts that overlap, a range by its bounds, what no condition says, and when one
-- does. Each by cases or by induction on the list. Assumes nothing.
use Prim.Native.Nat.{ℕ, zero, suc, ◌+◌, ◌-◌, ◌≤◌, ◌<◌}
use mathlib.Core.Path.{◌≡◌, refl, sym, ◌∙◌, ap}
use mathlib.Core.Bool.{Bool, true, false, cond, not, ◌&&◌, ◌||◌, or-true, or-false, or_assoc, true≢false, false≢true}
use mathlib.Core.List.{List, [], ◌∷◌, ◌++◌}
use native.Mathlib.Numerals.{add-one}
use native.Mathlib.Omega.{arith}
use lib.Dec.{leb, eqb}
use lib.ListN.{length, get_or, take, drop, take-append-drop, drop_of_length-le}
use lib.Seq.{length-take-le, drop-cons, take-take, drop-drop, take-add, drop_at}
use borrow.Author.Tests.{leb-true, lt-leb, eqb-true, eqb-false, ne_eqb}
use Rattle.calendar.specs.Tests.{any, within, lowest}

-- both parts of a test that holds
pub and_left : (a b : Bool) → (a && b) ≡ true → a ≡ true
and_left true b h = refl
and_left false b h = h

pub and_right : (a b : Bool) → (a && b) ≡ true → b ≡ true
and_right true b h = h
and_right false b h = absurd (false≢true h)

-- both parts of an alternative that fails
pub or_left : (a b : Bool) → (a || b) ≡ false → a ≡ false
or_left true b e = e
or_left false b e = refl

pub or_right : (a b : Bool) → (a || b) ≡ false → b ≡ false
or_right true b e = absurd (true≢false e)
or_right false b e = e

-- a test that cannot hold
pub not_true_false : (b : Bool) → (b ≡ true → ⊥) → b ≡ false
not_true_false true h = absurd (h refl)
not_true_false false h = refl

-- a choice by a test, and by whether a number is 0
pub by_test : {A : Type 0} (P : A → Type 0) (t : Bool) (x y : A) → (t ≡ true → P x) → (t ≡ false → P y) → P (cond t x y)
by_test P true x y holds fails = holds refl
by_test P false x y holds fails = fails refl

pub by_zero : {A : Type 0} (P : A → Type 0) (r : ℕ) (x y : A) → (r ≡ 0 → P x) → ((r ≡ 0 → ⊥) → P y) → P (cond (eqb r 0) x y)
by_zero P r x y none some = by_test P (eqb r 0) x y (λ e. none (eqb-true r 0 e)) (λ e. some (eqb-false r 0 e))

-- two bounds that were tested together
pub within_bounds : (low high x : ℕ) → within low high x ≡ true → (low ≤ x) × (x ≤ high)
within_bounds low high x t = (leb-true low x (and_left (leb low x) _ t), leb-true x high (and_right (leb low x) _ t))

-- at most 0 is 0
pub leb_zero : (x : ℕ) → leb x 0 ≡ eqb x 0
leb_zero zero = refl
leb_zero (suc x) = simp (lt-leb (suc x) 0 (omega arith), ne_eqb (suc x) 0 (omega arith))

-- the next element decides, or leaves it to the rest after it
any_next : {A : Type 0} (f : A → Bool) (l : List A) (i : ℕ) (d : A) → i < length l
    → any f (drop i l) ≡ (f (get_or l i d) || any f (drop (i + 1) l))
any_next f l i d h = rw (add-one, drop-cons l i d h)

-- a flag and the rest from a place on answer for the whole: with one more element, and past the end the flag alone
pub flag_more : {A : Type 0} (f : A → Bool) (l : List A) (i : ℕ) (d : A) (whole flag t : Bool) → i < length l → t ≡ f (get_or l i d)
    → whole ≡ (flag || any f (drop i l)) → whole ≡ ((flag || t) || any f (drop (i + 1) l))
flag_more f l i d whole flag t h e rest = rest ∙ rw (e, or_assoc) (ap (λ (b : Bool). flag || b) (any_next f l i d h))

pub flag_all : {A : Type 0} (f : A → Bool) (l : List A) (i : ℕ) (whole flag : Bool) → length l ≤ i
    → whole ≡ (flag || any f (drop i l)) → flag ≡ whole
flag_all f l i whole flag h rest = sym (rest ∙ rw (drop_of_length-le l h) (or-false flag))

-- of two lists one after the other, of the two parts of one, and with one more element at the end
pub any_append : {A : Type 0} (f : A → Bool) (l m : List A) → any f (l ++ m) ≡ (any f l || any f m)
any_append f [] m = refl
any_append f (x ∷ l) m = ap (λ (b : Bool). f x || b) (any_append f l m) ∙ sym (or_assoc (f x) (any f l) (any f m))

any_parts : {A : Type 0} (f : A → Bool) (l : List A) (i : ℕ) → any f l ≡ (any f (take i l) || any f (drop i l))
any_parts f l i = rw (← any_append, take-append-drop)

pub any_snoc : {A : Type 0} (f : A → Bool) (l : List A) (x : A) → any f (l ++ (x ∷ [])) ≡ (any f l || f x)
any_snoc f l x = any_append f l (x ∷ []) ∙ ap (λ (b : Bool). any f l || b) (or-false (f x))

-- a flag and the rest from a place on answer for the whole also from any place before
pub flag_again : {A : Type 0} (f : A → Bool) (l : List A) (i j : ℕ) (flag : Bool) → j ≤ i → any f l ≡ (flag || any f (drop i l))
    → any f l ≡ (flag || any f (drop j l))
flag_again f l i j flag h rest = go (any f (take (i - j) (drop j l))) refl
  where
    later : any f (drop j l) ≡ (any f (take (i - j) (drop j l)) || any f (drop i l))
    later = let back : j + (i - j) ≡ i = omega arith in any_parts f (drop j l) (i - j) ∙ rw (drop-drop, back)

    go : (b : Bool) → any f (take (i - j) (drop j l)) ≡ b → any f l ≡ (flag || any f (drop j l))
    go true e = any_parts f l j ∙ simp (later, e, or-true)
    go false e = rest ∙ simp (later, e)

-- of a list's first elements, by two parts of them that may overlap
pub any_spans : {A : Type 0} (f : A → Bool) (l : List A) (i j k : ℕ) → j ≤ i → i ≤ j + k → j ≤ length l
    → any f (take (j + k) l) ≡ (any f (take i l) || any f (take k (drop j l)))
any_spans f l i j k over inside long =
    let last : drop j (take (j + k) l) ≡ take k (drop j l) =
    rw (take-add j k l) (drop_at (take j l) (take k (drop j l)) j (length-take-le j l long))
    in
    rw last at
    (flag_again f (take (j + k) l) i j (any f (take i l)) over
    (rw (take-take i (j + k) l inside) at (any_parts f (take (j + k) l) i)))

-- a test that holds of no element fails of each
pub any_none : {A : Type 0} (f : A → Bool) (l : List A) (d : A) → any f l ≡ false → (j : ℕ) → j < length l
    → f (get_or l j d) ≡ false
any_none f [] d e j h = absurd (omega arith)
any_none f (x ∷ l) d e zero h = or_left (f x) (any f l) e
any_none f (x ∷ l) d e (suc j) h = any_none f l d (or_right (f x) (any f l) e) j (omega arith)

-- where it fails at each place, it holds of none
pub none_any : {A : Type 0} (f : A → Bool) (l : List A) (d : A) → ((i : ℕ) → i < length l → f (get_or l i d) ≡ false)
    → any f l ≡ false
none_any f [] d fails = refl
none_any f (x ∷ l) d fails = simp (fails 0 (omega arith), none_any f l d (λ i h. fails (suc i) (omega arith)))

-- where it holds at a place, it holds of some
pub some_any : {A : Type 0} (f : A → Bool) (l : List A) (i : ℕ) (d : A) → i < length l → f (get_or l i d) ≡ true
    → any f l ≡ true
some_any f l i d h t = go (any f l) refl
  where
    go : (b : Bool) → any f l ≡ b → any f l ≡ true
    go true e = e
    go false e = absurd (false≢true (sym (any_none f l d e i h) ∙ t))

-- where no condition holds, the first does not, nor any after it, nor one at any place
pub lowest_none : (k : ℕ) (b : Bool) (bs : List Bool) → lowest (suc k) (b ∷ bs) ≡ 0
    → (b ≡ false) × (lowest (suc (suc k)) bs ≡ 0)
lowest_none k true bs e = absurd (omega arith)
lowest_none k false bs e = (refl, e)

pub none_holds : (k : ℕ) (bs : List Bool) → lowest (suc k) bs ≡ 0 → (j : ℕ) → get_or bs j false ≡ false
none_holds k [] e j = refl
none_holds k (b ∷ bs) e zero = (lowest_none k b bs e).0
none_holds k (b ∷ bs) e (suc j) = none_holds (suc k) bs (lowest_none k b bs e).1 j

-- and there is a number exactly where one holds
pub lowest-any : (k : ℕ) (bs : List Bool) → eqb (lowest (suc k) bs) 0 ≡ not (any (λ b. b) bs)
lowest-any k [] = refl
lowest-any k (true ∷ bs) = ne_eqb (suc k) 0 (omega arith)
lowest-any k (false ∷ bs) = lowest-any (suc k) bs
