-- How characters become fields ("Case line" of document 01), and how a number is written in them. Every definition is
-- total: past the end of a line, and where a character is no digit, a digit counts as 0. Assumes nothing.
use Rattle.std.specs.Prelude.{ℕ, zero, suc, ◌+◌, ◌-◌, ◌*◌, ◌/◌, ◌%◌, Bool, cond, ◌&&◌, List, [], ◌∷◌, ◌++◌, leb, ltb, eqb, get_or}
use Rattle.calendar.specs.declared.Date.{Date}
use Rattle.calendar.specs.Calendar.{date}
use Rattle.calendar.specs.Tests.{any}

-- the value of a character: 0-9 and A-F, and 16 for any other
unfoldable pub hex_value : ℕ → ℕ
hex_value c =
    cond (leb 48 c && leb c 57) (c - 48)
    (cond (leb 65 c && leb c 70) (c - 55)
    16)

-- the character is none of them
unfoldable pub is_no_digit : ℕ → Bool
is_no_digit c = eqb (hex_value c) 16

-- refusal 1: "A character is not 0-9 or A-F"
unfoldable pub bad_character : List ℕ → Bool
bad_character s = any is_no_digit s

-- the digit at a place
unfoldable pub digit_at : List ℕ → ℕ → ℕ
digit_at s at = hex_value (get_or s at 0) % 16

-- "Numbers have their highest byte first": the number of n digits from a place on
unfoldable pub number_at : List ℕ → ℕ → ℕ → ℕ
number_at s at zero = 0
number_at s at (suc n) = number_at s at n * 16 + digit_at s (at + n)

-- "A date is 2 bytes of year, 1 of month, 1 of day"
unfoldable pub date_at : List ℕ → ℕ → Date
date_at s at = date (number_at s at 4) (number_at s (at + 4) 2) (number_at s (at + 6) 2)

-- the character of a digit
unfoldable pub hex_character : ℕ → ℕ
hex_character d = cond (ltb d 10) (48 + d) (55 + d)

-- a number written: n digits, highest first
unfoldable pub hex_text : ℕ → ℕ → List ℕ
hex_text zero x = []
hex_text (suc n) x = hex_text n (x / 16) ++ (hex_character (x % 16) ∷ [])
