-- Definitions for the contracts of private functions: what the code knows of a register that it went along, of a line that it
-- looked for, of a case that it files, and of the lines of a text that are left, and what it makes on the way to a line. Nothing here has to be believed.
-- Assumes nothing.
use Rattle.std.specs.Prelude.{ℕ, ◌+◌, ◌*◌, ◌/◌, ◌%◌, ◌<◌, Bool, true, false, List, [], ◌∷◌, ◌≡◌, map, length, get_or, Option, Some, None, Result, Ok, Err, IfOk}
use Rattle.std.specs.Int.{w32, to_be_bytes}
use Rattle.std.specs.List.{flat_map}
use Rattle.calendar.specs.Tests.{any}
use Rattle.split.specs.Frame.{is_no_digit, hex_character}
use Rattle.refusals.specs.declared.Refusal.{Refusal}
use Rattle.refusals.specs.Numbers.{number}
use Rattle.register.specs.declared.answers.Fault.{Fault}
use Rattle.register.specs.declared.filing.Entered.{Entered}
use Rattle.register.specs.declared.text.Lines.{Lines}
use Rattle.register.specs.Answers.{Checked, Located, Filed}
use Rattle.register.specs.Line.{figure_width}
use Rattle.register.specs.Layout.{Register, Layout, lent, length_of, used_lines, line_layout}
use Rattle.register.specs.Check.{following, next_number, check_lines, check_of}
use Rattle.register.specs.Find.{last_place}
use Rattle.register.specs.File.{Filing, number_from, file_step}
use Rattle.register.specs.Text.{text_lines}

-- what going along a register finds: the check's refusal and offset, and where there is none the number that a next line must have,
-- 0 where there is no line
pub record Scanned : Type 0 where
  pub refusal : ℕ
  pub offset : ℕ
  pub next : ℕ

-- the number that a line behind the last one must have; 0, for any from 1, where there is none
abbrev pub next_after : Option ℕ → ℕ
next_after None = 0
next_after (Some last) = following last

-- how what is bad, or the last line's number, reads as these
abbrev pub scanned_as : Result (Option ℕ) Fault → Scanned
scanned_as (Ok last) = record { refusal = 0; offset = 0; next = next_after last }
scanned_as (Err fault) = record { refusal = 11; offset = fault.offset; next = 0 }

-- what going along lines finds: what the check found, and where that is none the number that a next line must have
pub record ScannedAs (found : Checked) (ls : List (List ℕ)) (k : Scanned) : Type 0 where
  pub checked : record { refusal = k.refusal; offset = k.offset } ≡ found
  pub numbered : k.refusal ≡ 0 → k.next ≡ next_number ls

-- what is known of a register when it is filed in: the refusal of its check, and the same number
pub record Known (r : Register) (k : Scanned) : Type 0 where
  pub checked : k.refusal ≡ (check_of r).refusal
  pub numbered : k.refusal ≡ 0 → k.next ≡ next_number (used_lines r)

-- n characters from a place on are digits
abbrev pub DigitsAt : List ℕ → ℕ → ℕ → Type 0
DigitsAt s at n = (j : ℕ) → j < n → is_no_digit (get_or s (at + j) 0) ≡ false

-- the lines of bytes that are all used
abbrev pub lines_in : List ℕ → List (List ℕ)
lines_in s = used_lines (lent s (length s))

-- lines that the check finds sound
abbrev pub SoundLines : List (List ℕ) → Type 0
SoundLines ls = (check_lines 0 0 ls).refusal ≡ 0

-- the place of the last of the lines that passes a test, and none where none does
abbrev pub FoundAt : (List ℕ → Bool) → List (List ℕ) → Option ℕ → Type 0
FoundAt f ls None = any f ls ≡ false
FoundAt f ls (Some place) = (place < length ls) × (any f ls ≡ true) × (last_place f ls ≡ place)

-- where the line at a place is, and 14 where there is none
abbrev pub placed_by : Layout → Option ℕ → Located
placed_by y None = record { refusal = 14; offset = 0; length = 0 }
placed_by y (Some place) = record { refusal = 0; offset = place * length_of y; length = length_of y }

abbrev pub placed : Option ℕ → Located
placed place = placed_by line_layout place

-- how a line that was filed, or the refusal, reads as the answer of a filing
abbrev pub entered_as : Result Entered Refusal → Filed
entered_as (Ok entered) = record { refusal = 0; used = entered.used }
entered_as (Err r) = record { refusal = number r; used = 0 }

-- what a filing answers and leaves, and the number of its line, where `next` is the number that a next line must have
pub record EnteredAs (r : Register) (f : Filing) (next : ℕ) (answer : Result Entered Refusal) (after : List ℕ) : Type 0 where
  pub answered : entered_as answer ≡ (file_step r f).answer
  pub bytes : after ≡ (file_step r f).state.bytes
  pub numbered : IfOk answer (λ (e : Entered). e.number ≡ number_from next f)

-- the lines of the text that is left
abbrev pub lines_left : Lines → List (List ℕ)
lines_left l = text_lines l.0.now

-- the digits of a byte, and the bytes of a figure
abbrev pub byte_digits : ℕ
byte_digits = 2

abbrev pub figure_bytes : ℕ
figure_bytes = figure_width / byte_digits

-- the bytes of figures one after the other, the highest of each first
abbrev pub figures_bytes : List ℕ → List ℕ
figures_bytes = flat_map (to_be_bytes w32)

-- the values of the two digits of each byte
abbrev pub byte_values : List ℕ → List ℕ
byte_values = flat_map (λ (b : ℕ). b / 16 ∷ b % 16 ∷ [])

-- the characters that are made of the values of digits; the remainder changes none
abbrev pub spelled : List ℕ → List ℕ
spelled = map (λ (d : ℕ). hex_character (d % 16))
