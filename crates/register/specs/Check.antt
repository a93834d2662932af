-- The check of a register ("Register" and refusal 11 of document 01), for any layout of a line. The used part is cut into
-- lines; the check goes along them and stops at the first bad character of the first bad line. Assumes nothing.
use Rattle.std.specs.Prelude.{ℕ, zero, suc, ◌+◌, ◌-◌, ◌%◌, Bool, cond, not, ◌||◌, List, [], ◌∷◌, ltb, eqb, length, get_or}
use Rattle.split.specs.Frame.{is_no_digit}
use Rattle.register.specs.Answers.{Checked}
use Rattle.register.specs.Line.{figure_width, number_in}
use Rattle.register.specs.Layout.{Register, Layout, length_of, used_lines_by, line_layout}

-- "Numbers rise by one": the number that follows another
unfoldable pub following : ℕ → ℕ
following n = n + 1

-- the number that a line after these must have, where the first of them had to have the expected one; 0 stands for any from 1
unfoldable pub number_after : ℕ → List (List ℕ) → ℕ
number_after expected [] = expected
number_after expected (l ∷ ls) = number_after (following (number_in l)) ls

-- the number that a next line must have: the last plus one, and 0 where there is no line
abbrev pub next_number : List (List ℕ) → ℕ
next_number ls = number_after 0 ls

-- "Numbers rise by one; the first may be any from 1": a number is not the expected one
unfoldable pub wrong_number : ℕ → ℕ → Bool
wrong_number expected number = cond (eqb expected 0) (eqb number 0) (not (eqb number expected))

-- no refusal: offset 0
abbrev pub sound : Checked
sound = record { refusal = 0; offset = 0 }

-- 11, with the offset of what is bad
abbrev pub unsound : ℕ → Checked
unsound at = record { refusal = 11; offset = at }

-- the character at a place of a line may not stand there: a digit before the newline's place, and a newline at it
unfoldable pub bad_at : Layout → List ℕ → ℕ → Bool
bad_at y l i = cond (ltb i y.text) (is_no_digit (get_or l i 0)) (not (eqb (get_or l i 0) 10))

-- the place of the first bad character among n from i on; i + n where there is none
unfoldable pub first_bad : Layout → List ℕ → ℕ → ℕ → ℕ
first_bad y l i zero = i
first_bad y l i (suc n) = cond (bad_at y l i) i (first_bad y l (suc i) n)

-- the place of a line's fault, and the line's length where it has none: "a wrong number whose eight digits are good is
-- bad at the line's first character, even if a bad character follows"; the late test comes last
unfoldable pub line_fault : Layout → ℕ → List ℕ → ℕ
line_fault y expected l =
    cond (ltb (first_bad y l 0 figure_width) figure_width) (first_bad y l 0 figure_width)
    (cond (wrong_number expected (number_in l)) 0
    (cond (ltb (first_bad y l figure_width (length_of y - figure_width)) (length_of y)) (first_bad y l figure_width (length_of y - figure_width))
    (cond (y.late l) y.late_place
    (length_of y))))

-- the lines from an offset on, of which the first must have the expected number
unfoldable pub check_lines_by : Layout → ℕ → ℕ → List (List ℕ) → Checked
check_lines_by y expected at [] = sound
check_lines_by y expected at (l ∷ ls) =
    cond (ltb (line_fault y expected l) (length_of y))
    (unsound (at + line_fault y expected l))
    (check_lines_by y (following (number_in l)) (at + length_of y) ls)

-- "Used length above the buffer, no multiple of 121"
unfoldable pub bad_used_by : Layout → ℕ → ℕ → Bool
bad_used_by y buffer used = ltb buffer used || not (eqb (used % length_of y) 0)

-- the check: "a bad used length is tested first and gives itself"
unfoldable pub check_by : Layout → Register → Checked
check_by y r = cond (bad_used_by y (length r.bytes) r.used) (unsound r.used) (check_lines_by y 0 0 (used_lines_by y r))

abbrev pub check_lines : ℕ → ℕ → List (List ℕ) → Checked
check_lines expected at ls = check_lines_by line_layout expected at ls

abbrev pub bad_used : ℕ → ℕ → Bool
bad_used buffer used = bad_used_by line_layout buffer used

abbrev pub check_of : Register → Checked
check_of r = check_by line_layout r
