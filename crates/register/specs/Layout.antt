-- A register and how its used part is cut into lines, for any layout of a line. The names without `By` are those
-- of document 01's one layout ("Register"). Assumes nothing.
use Rattle.std.specs.Prelude.{ℕ, zero, suc, ◌+◌, ◌/◌, Bool, false, List, [], ◌∷◌, ◌++◌, length, take, drop}
use Rattle.register.specs.Line.{text_length}

-- "Lent bytes and a used length"
pub record Register : Type 0 where
  pub bytes : List ℕ
  pub used : ℕ

abbrev pub lent : List ℕ → ℕ → Register
lent s used = record { bytes = s; used = used }

-- A line's layout: digits, and a newline behind them; a test that a line of good characters and of the right number may still
-- fail, and the place that is then bad.
pub record Layout : Type 0 where
  pub text : ℕ
  pub late : List ℕ → Bool
  pub late_place : ℕ

-- a line with its newline
abbrev pub length_of : Layout → ℕ
length_of y = y.text + 1

-- the first n lines
unfoldable pub cut_lines : Layout → ℕ → List ℕ → List (List ℕ)
cut_lines y zero s = []
cut_lines y (suc n) s = take (length_of y) s ∷ cut_lines y n (drop (length_of y) s)

-- the lines of the used part
abbrev pub used_lines_by : Layout → Register → List (List ℕ)
used_lines_by y r = cut_lines y (r.used / length_of y) r.bytes

-- lines one after the other, and how long they are together
abbrev pub bytes_of : List (List ℕ) → List ℕ
bytes_of [] = []
bytes_of (l ∷ ls) = l ++ bytes_of ls

abbrev pub used_by : List (List ℕ) → ℕ
used_by ls = length (bytes_of ls)

-- "The layout is those 120 digits and the newline, no more": there is no late test
abbrev pub line_layout : Layout
line_layout = record { text = text_length; late = λ l. false; late_place = 0 }

abbrev pub line_length : ℕ
line_length = length_of line_layout

abbrev pub used_lines : Register → List (List ℕ)
used_lines r = used_lines_by line_layout r
