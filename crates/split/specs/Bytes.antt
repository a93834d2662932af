-- The bytes of a line, as `decode` gives them, for the contracts of the private readers. Nothing here has to be believed.
-- Assumes nothing.
use Rattle.std.specs.Prelude.{ℕ, ◌+◌, ◌<◌, ◌≤◌, Bool, false, ◌||◌, List, ◌≡◌, length, get_or, drop}
use Rattle.calendar.specs.Tests.{any}
use Rattle.split.specs.Frame.{is_no_digit, bad_character, number_at}
use Rattle.split.specs.Case.{longest_line}

-- how many characters are decoded together
abbrev pub block_length : ℕ
block_length = 32

-- the first i characters of a line are decoded into bytes for the longest: a flag and the other characters say whether
-- some character is no digit, and where none is, each of the i has become a byte with the character after it
pub record Decoded (s b : List ℕ) (bad : Bool) (i : ℕ) : Type 0 where
  pub size : length b ≡ longest_line
  pub judged : bad_character s ≡ (bad || any is_no_digit (drop i s))
  pub passed : bad_character s ≡ false → (j : ℕ) → j < i → get_or b j 0 ≡ number_at s j 2

-- the bytes of a line: at each place what the character there and the next make, as far as the line has both
abbrev pub Bytes : List ℕ → List ℕ → Type 0
Bytes s b = (j : ℕ) → j + 2 ≤ length s → get_or b j 0 ≡ number_at s j 2

-- a value read from bytes before an end is that field of every line whose bytes they are and that goes as far
abbrev pub FieldOf : {A : Type 0} → List ℕ → ℕ → A → (List ℕ → A) → Type 0
FieldOf b end value field = (s : List ℕ) → Bytes s b → end ≤ length s → value ≡ field s

-- the field of a width at a place was taken, and the next begins where it ends
pub record Taken {A : Type 0} (b : List ℕ) (at : ℕ) (field : List ℕ → ℕ → A) (width : ℕ) (v : A) (end : ℕ) : Type 0 where
  pub value : FieldOf b end v (λ s. field s at)
  pub next : end ≡ at + width

-- a number of n digits, as a field
abbrev pub number_of : ℕ → List ℕ → ℕ → ℕ
number_of n s at = number_at s at n
