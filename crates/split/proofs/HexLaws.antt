-- Numbers written in hexadecimal and read again: a text has the stated width, each character is a digit, read back from any
-- place it is the number, by induction on the width; numbers compared digit by digit from the last; and a number in a part of a
-- text is read in the whole. Assumes nothing.
use Prim.Native.Nat.{ℕ, zero, suc, ◌+◌, ◌-◌, ◌*◌, ◌/◌, ◌%◌, ◌^◌, ◌≤◌, ◌<◌}
use mathlib.Core.Bool.{Bool, true, false, cond, true≢false}
use mathlib.Core.List.{List, [], ◌∷◌, ◌++◌, append_assoc}
use mathlib.Core.Path.{◌≡◌, refl, sym, ◌∙◌, ap}
use native.Mathlib.Decide.{dec_lt}
use native.Mathlib.Nat.{add_assoc, pow-suc}
use native.Mathlib.Omega.{arith}
use lib.Dec.{eqb}
use lib.ListN.{length, get_or, take, drop, length-append}
use lib.Seq.{get_or-append-add, get_or_at, get_or-take, get_or-drop}
use borrow.Author.Tests.{lt-ltb, le-ltb, le-leb, lt-leb, eqb-true, eqb-false, eq-eqb, ne_eqb}
use Rattle.calendar.specs.Tests.{within}
use Rattle.calendar.proofs.TestsLaws.{within_bounds, any_append, any_snoc}
use Rattle.split.specs.Frame.{hex_value, is_no_digit, bad_character, digit_at, number_at, hex_character, hex_text}

-- what is no digit, by its value
pub no_digit : (c : ℕ) → is_no_digit c ≡ eqb (hex_value c) 16
unfolding is_no_digit
no_digit c = refl

-- a digit's character, below ten and from ten on
pub hex_low : (d : ℕ) → d < 10 → hex_character d ≡ 48 + d
unfolding hex_character
hex_low d h = simp (lt-ltb d 10 h)

pub hex_high : (d : ℕ) → 10 ≤ d → hex_character d ≡ 55 + d
unfolding hex_character
hex_high d h = simp (le-ltb d 10 h)

-- no digit written, and one more at the end
pub hex_none : (x : ℕ) → hex_text 0 x ≡ []
unfolding hex_text
hex_none x = refl

pub hex_more : (n x : ℕ) → hex_text (suc n) x ≡ hex_text n (x / 16) ++ (hex_character (x % 16) ∷ [])
unfolding hex_text
hex_more n x = refl

-- a digit's character has the digit's value
hex_digit : (d : ℕ) → d < 16 → hex_value (hex_character d) ≡ d
unfolding hex_value hex_character
hex_digit d h =
    elim (dec_lt d 10) [
      | yes l ↦ simp (lt-ltb d 10 l, le-leb 48 (48 + d) (omega arith), le-leb (48 + d) 57 (omega arith)) (omega arith)
      | no l ↦
          simp (
            le-ltb d 10 (omega arith),
            le-leb 48 (55 + d) (omega arith),
            lt-leb (55 + d) 57 (omega arith),
            le-leb 65 (55 + d) (omega arith),
            le-leb (55 + d) 70 (omega arith),
          ) (omega arith)
    ]

pub hex_length : (n x : ℕ) → length (hex_text n x) ≡ n
unfolding hex_text
hex_length zero x = refl
hex_length (suc n) x = simp (length-append, hex_length n (x / 16)) (omega arith)

-- no character is bad
pub hex_good : (n x : ℕ) → bad_character (hex_text n x) ≡ false
unfolding hex_text bad_character is_no_digit
hex_good zero x = refl
hex_good (suc n) x =
    any_snoc is_no_digit (hex_text n (x / 16)) (hex_character (x % 16))
    ∙ simp (hex_good n (x / 16), hex_digit (x % 16) (omega arith), ne_eqb (x % 16) 16 (omega arith))

-- nor of two texts one after the other, if none is of either
pub good_append : (a b : List ℕ) → bad_character a ≡ false → bad_character b ≡ false → bad_character (a ++ b) ≡ false
unfolding bad_character
good_append a b x y = any_append is_no_digit a b ∙ simp (x, y)

pub good_none : bad_character [] ≡ false
unfolding bad_character
good_none = refl

-- the last digit of a number that is written stands behind the others
hex_last : (pre rest : List ℕ) (n x : ℕ)
    → digit_at (pre ++ (hex_text n (x / 16) ++ (hex_character (x % 16) ∷ rest))) (length pre + n) ≡ x % 16
unfolding digit_at
hex_last pre rest n x =
    simp (
      get_or-append-add,
      get_or_at (hex_text n (x / 16)) (hex_character (x % 16)) rest 0 n (hex_length n (x / 16)),
      hex_digit (x % 16) (omega arith),
    ) (omega arith)

-- a number of no digits, and of one digit more
number_none : (s : List ℕ) (at : ℕ) → number_at s at zero ≡ 0
unfolding number_at
number_none s at = refl

number_more : (s : List ℕ) (at n : ℕ) → number_at s at (suc n) ≡ number_at s at n * 16 + digit_at s (at + n)
unfolding number_at
number_more s at n = refl

-- what is written behind any text is read back from there
pub hex_back : (pre rest : List ℕ) (n x : ℕ) → x < 16 ^ n → number_at (pre ++ (hex_text n x ++ rest)) (length pre) n ≡ x
hex_back pre rest zero x h = omega (arith, number_none (pre ++ (hex_text zero x ++ rest)) (length pre))
hex_back pre rest (suc n) x h =
    let others = hex_back pre (hex_character (x % 16) ∷ rest) n (x / 16) (omega (arith, rw pow-suc at h)) in
    let last = hex_last pre rest n x in
    rw (hex_more n x, append_assoc (hex_text n (x / 16)) (hex_character (x % 16) ∷ []) rest, number_more)
    (omega (arith, others, last))

-- a digit is the character of its value, so that two of one value are the same
low_back : (c : ℕ) → (48 ≤ c) × (c ≤ 57) → hex_character ((c - 48) % 16) ≡ c
low_back c h = hex_low ((c - 48) % 16) (omega arith) ∙ omega arith

high_back : (c : ℕ) → (65 ≤ c) × (c ≤ 70) → hex_character ((c - 55) % 16) ≡ c
high_back c h = hex_high ((c - 55) % 16) (omega arith) ∙ omega arith

digit_back : (c : ℕ) → is_no_digit c ≡ false → hex_character (hex_value c % 16) ≡ c
unfolding is_no_digit hex_value
digit_back c = go (within 48 57 c) refl (within 65 70 c) refl
  where
    go : (low : Bool) → within 48 57 c ≡ low → (high : Bool) → within 65 70 c ≡ high
        → eqb (cond low (c - 48) (cond high (c - 55) 16)) 16 ≡ false → hex_character (cond low (c - 48) (cond high (c - 55) 16) % 16) ≡ c
    go true low high e known = low_back c (within_bounds 48 57 c low)
    go false low true high known = high_back c (within_bounds 65 70 c high)
    go false low false high known = absurd (true≢false known)

-- numbers of digits are compared from the last digit on: one that is the same leaves it to those before, one that is not tells
-- them apart
last_same : (a b d : ℕ) → eqb (a * 16 + d) (b * 16 + d) ≡ eqb a b
last_same a b d = go (eqb a b) refl
  where
    go : (x : Bool) → eqb a b ≡ x → eqb (a * 16 + d) (b * 16 + d) ≡ x
    go true x = eq-eqb (a * 16 + d) (b * 16 + d) (omega (arith, eqb-true a b x))
    go false x = ne_eqb (a * 16 + d) (b * 16 + d) (λ z. eqb-false a b x (omega arith))

last_other : (a b d e : ℕ) → d < 16 → e < 16 → (d ≡ e → ⊥) → eqb (a * 16 + d) (b * 16 + e) ≡ false
last_other a b d e low low₂ other = ne_eqb (a * 16 + d) (b * 16 + e) (λ z. other (omega arith))

module _ (s t : List ℕ) (at o n : ℕ) where
  pub number_same : get_or s (at + n) 0 ≡ get_or t (o + n) 0
      → eqb (number_at s at (suc n)) (number_at t o (suc n)) ≡ eqb (number_at s at n) (number_at t o n)
  unfolding number_at digit_at
  number_same e = simp e (last_same (number_at s at n) (number_at t o n) (hex_value (get_or t (o + n) 0) % 16))

  pub number_other : is_no_digit (get_or s (at + n) 0) ≡ false → is_no_digit (get_or t (o + n) 0) ≡ false
      → (get_or s (at + n) 0 ≡ get_or t (o + n) 0 → ⊥) → eqb (number_at s at (suc n)) (number_at t o (suc n)) ≡ false
  unfolding number_at digit_at
  number_other known known₂ other =
      last_other (number_at s at n) (number_at t o n) (hex_value (get_or s (at + n) 0) % 16) (hex_value (get_or t (o + n) 0) % 16)
      (omega arith) (omega arith)
      (λ e. other (sym (digit_back (get_or s (at + n) 0) known) ∙ ap hex_character e ∙ digit_back (get_or t (o + n) 0) known₂))

-- a number in a part of a text is read in the whole
pub number_part : (s : List ℕ) (size at o n : ℕ) → o + n ≤ size → number_at (take size (drop at s)) o n ≡ number_at s (at + o) n
unfolding number_at digit_at
number_part s size at o zero h = refl
number_part s size at o (suc n) h =
    simp (
      number_part s size at o n (omega arith),
      get_or-take size (drop at s) (o + n) 0 (omega arith),
      get_or-drop,
      add_assoc,
    )
