-- Laws of a line's bytes: the line is decoded character by character, and fields are taken from its bytes: two numbers as
-- one number, and what is made of a field and of the next behind it. Assumes nothing.
use Prim.Native.Nat.{ℕ, ◌+◌, ◌*◌, ◌%◌, ◌^◌, ◌<◌, ◌≤◌}
use mathlib.Core.Bool.{Bool, false, ◌||◌}
use mathlib.Core.List.{List}
use mathlib.Core.Path.{◌≡◌, refl, sym, ◌∙◌, ap}
use native.Mathlib.Nat.{add-zero}
use native.Mathlib.Omega.{arith}
use lib.ListN.{length, get_or, set, length-set}
use lib.Seq.{get_or-set_same, get_or-set_other}
use borrow.Author.Count.{below_more}
use Rattle.calendar.proofs.TestsLaws.{flag_more, flag_again, flag_all}
use Rattle.split.specs.Frame.{is_no_digit, bad_character, digit_at, number_at, hex_value}
use Rattle.split.specs.Case.{longest_line}
use Rattle.split.specs.Bytes.{Decoded, Bytes, Taken, number_of}
use Rattle.split.proofs.FrameLaws.{digit_known, number_split}

pub decoded_none : {s b : List ℕ} → length b ≡ longest_line → Decoded s b false 0
unfolding bad_character
decoded_none size = record { size = size; judged = refl; passed = λ good j h. absurd (omega arith) }

-- a number is the value of the character at a place, if that is a digit
abbrev pub ValueAt : List ℕ → ℕ → ℕ → Type 0
ValueAt s at v = is_no_digit (get_or s at 0) ≡ false → v ≡ hex_value (get_or s at 0) % 16

-- one character more, with the one after it
pub decoded_more : {s b : List ℕ} {bad t : Bool} {i high low : ℕ} → Decoded s b bad i → i + 1 < length s → i < longest_line
    → t ≡ is_no_digit (get_or s i 0) → ValueAt s i high → ValueAt s (i + 1) low
    → Decoded s (set b i (high * 16 + low)) (bad || t) (i + 1)
unfolding number_at digit_at
decoded_more {s} {b} {bad} {t} {i} {high} {low} done h place e x y =
    let v = high * 16 + low in
    record {
      size = length-set b i v ∙ done.size;
      judged = flag_more is_no_digit s i 0 _ bad t (omega arith) e done.judged;
      passed = λ good.
          below_more _ i (λ j l. get_or-set_other b i j v 0 (λ q. omega arith) ∙ done.passed good j l)
          (get_or-set_same b i v 0 (rw done.size place)
          ∙ simp add-zero (omega (arith, x (digit_known s i good (omega arith)), y (digit_known s (i + 1) good h))));
    }

-- what is decoded is so up to any place before
pub decoded_again : {s b : List ℕ} {bad : Bool} {i : ℕ} (k : ℕ) → k ≤ i → Decoded s b bad i → Decoded s b bad k
unfolding bad_character
decoded_again {s} {bad = bad} {i} k h done =
    record {
      size = done.size;
      judged = flag_again is_no_digit s i k bad h done.judged;
      passed = λ good j l. done.passed good j (omega arith);
    }

-- all but the last character, which is judged by itself
pub decoded_all : {s b : List ℕ} {bad t : Bool} {i : ℕ} → Decoded s b bad i → length s ≡ i + 1 → t ≡ is_no_digit (get_or s i 0)
    → ((bad || t) ≡ bad_character s) × ((bad || t) ≡ false → Bytes s b)
decoded_all {s} {b} {bad} {t} {i} done size e =
    let judged = flag_more is_no_digit s i 0 _ bad t (omega arith) e done.judged in
    let whole = flag_all is_no_digit s (i + 1) _ (bad || t) (omega arith) judged in
    (whole, λ good j h. done.passed (sym whole ∙ good) j (omega arith))

-- two numbers of as many digits make one of twice as many
pub number_joined : {b : List ℕ} {at at₁ at₂ n high low : ℕ} → Taken b at (number_of n) n high at₁
    → Taken b at₁ (number_of n) n low at₂ → Taken b at (number_of (n + n)) (n + n) (high * 16 ^ n + low) at₂
number_joined {at = at} {n = n} high low =
    record {
      value = λ s bytes within.
          rw (high.value s bytes (omega arith), low.value s bytes within, high.next) (sym (number_split s at n n));
      next = omega arith;
    }

-- what is made of a field
pub made_of : {A B : Type 0} {b : List ℕ} {at mid n : ℕ} {field : List ℕ → ℕ → A} {x : A} (f : A → B)
    → Taken b at field n x mid → Taken b at (λ s k. f (field s k)) n (f x) mid
made_of f a = record { value = λ s bytes within. ap f (a.value s bytes within); next = a.next }

-- and of the next one
infixl 20 ◌then◌
pub ◌then◌ : {A B : Type 0} {b : List ℕ} {at mid end n m : ℕ} {made : List ℕ → ℕ → A → B} {field : List ℕ → ℕ → A} {f : A → B}
    {x : A} → Taken b at made n f mid → Taken b mid field m x end
    → Taken b at (λ s k. made s k (field s (k + n))) (n + m) (f x) end
a then b =
    record {
      value = λ s bytes within. rw (a.value s bytes (omega arith), b.value s bytes within, a.next);
      next = omega arith;
    }
