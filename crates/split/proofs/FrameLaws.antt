-- Laws of fields: a digit is below 16, a number of n digits below 16 to the n, and split into two numbers, and a digit's value
-- is arithmetic of its character. Assumes nothing.
use mathlib.Core.Path.{◌≡◌, refl}
use mathlib.Core.Bool.{Bool, true, false, cond, ◌&&◌, ◌||◌, true≢false}
use mathlib.Core.Logic.{◌↔◌, ◌⊎◌, inl, inr, ⊎_elim}
use Prim.Native.Nat.{ℕ, zero, suc, ◌+◌, ◌-◌, ◌*◌, ◌/◌, ◌%◌, ◌^◌, ◌<◌, ◌≤◌}
use native.Mathlib.Nat.{add_assoc, add-zero, add-suc, mul_assoc, pow-suc, pow-le-pow_right, lt_of_lt_of_le}
use native.Mathlib.Omega.{arith}
use mathlib.Core.List.{List}
use lib.Dec.{leb, eqb}
use lib.ListN.{length, get_or, get_or-eq_default}
use borrow.Author.Tests.{eqb-true, ne_eqb, leb-true, le-leb, lt-leb}
use Rattle.factors.proofs.Table.{below_at}
use Rattle.split.specs.Frame.{is_no_digit, bad_character, digit_at, number_at, hex_value}
use Rattle.calendar.proofs.TestsLaws.{and_left, and_right, any_none}

pub digit_below : (s : List ℕ) (at : ℕ) → digit_at s at < 16
unfolding digit_at
digit_below s at = omega arith

pub number_below : (s : List ℕ) (at n : ℕ) → number_at s at n < 16 ^ n
unfolding number_at
number_below s at zero = omega arith
number_below s at (suc n) = rw pow-suc (omega (arith, number_below s at n, digit_below s (at + n)))

-- a number of fewer than eight digits has room for one more in 32 bits
pub number_room : (s : List ℕ) (at i : ℕ) → i < 8 → number_at s at i < 268435456
number_room s at i h =
    lt_of_lt_of_le (number_below s at i) (pow-le-pow_right {n = 16} (omega arith) {j = 7} (omega arith))

-- a value of 16 tells that a character is no digit
pub no_digit_by : (c : ℕ) {v : ℕ} → v ≡ hex_value c → eqb v 16 ≡ is_no_digit c
unfolding is_no_digit
no_digit_by c e = rw e

-- a digit's value by arithmetic: antt computes it at each of the 256 characters
pub digit_worth : (c : ℕ) → c < 256 → is_no_digit c ≡ false → (c % 16 + 9 * (c / 64)) % 16 ≡ hex_value c % 16
unfolding hex_value is_no_digit
digit_worth c h e =
    eqb-true _ _
    (rw e at
    (below_at 256 (λ (k : ℕ). is_no_digit k || eqb ((k % 16 + 9 * (k / 64)) % 16) (hex_value k % 16)) refl c h))

-- a character that is a digit is one of 0-9 and A-F
pub digit_range : (c : ℕ) → (is_no_digit c ≡ false) ↔ (((48 ≤ c) × (c ≤ 57)) ⊎ ((65 ≤ c) × (c ≤ 70)))
unfolding hex_value is_no_digit
digit_range c = (
  λ e. go (leb 48 c && leb c 57) refl (leb 65 c && leb c 70) refl e,
  ⊎_elim
      (λ h. simp (le-leb 48 c h.0, le-leb c 57 h.1) (ne_eqb (c - 48) 16 (omega arith)))
      (λ h. simp (le-leb 48 c (omega arith), lt-leb c 57 (omega arith), le-leb 65 c h.0, le-leb c 70 h.1) (ne_eqb (c - 55) 16 (omega arith))),
)
  where
    go : (a : Bool) → (leb 48 c && leb c 57) ≡ a → (b : Bool) → (leb 65 c && leb c 70) ≡ b
        → eqb (cond a (c - 48) (cond b (c - 55) 16)) 16 ≡ false → ((48 ≤ c) × (c ≤ 57)) ⊎ ((65 ≤ c) × (c ≤ 70))
    go true p b q e = inl (leb-true 48 c (and_left (leb 48 c) (leb c 57) p), leb-true c 57 (and_right (leb 48 c) (leb c 57) p))
    go false p true q e = inr (leb-true 65 c (and_left (leb 65 c) (leb c 70) q), leb-true c 70 (and_right (leb 65 c) (leb c 70) q))
    go false p false q e = absurd (true≢false e)

-- in a line of digits each character is one
pub digit_known : (s : List ℕ) (at : ℕ) → bad_character s ≡ false → at < length s → is_no_digit (get_or s at 0) ≡ false
unfolding bad_character
digit_known s at e h = any_none is_no_digit s 0 e at h

-- past the end there are only zeros
pub number_past : (s : List ℕ) (at n : ℕ) → length s ≤ at → number_at s at n ≡ 0
unfolding number_at digit_at hex_value
number_past s at zero h = refl
number_past s at (suc n) h =
    simp (number_past s at n h, get_or-eq_default s 0 {n = at + n} (omega arith))

-- a number is that of its first digits, moved up, and that of the others
pub number_split : (s : List ℕ) (at m n : ℕ) → number_at s at (m + n) ≡ number_at s at m * 16 ^ n + number_at s (at + m) n
unfolding number_at
number_split s at m zero = rw (add-zero m) (omega arith)
number_split s at m (suc n) =
    rw (add-suc, number_at, pow-suc, ← add_assoc at m n, ← mul_assoc) (omega (arith, number_split s at m n))
