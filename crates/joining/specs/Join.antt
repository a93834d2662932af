-- Joining two registers into a third buffer (request [7] of document 02): the numbers of the result, the line of each, the
-- refusals, and what the buffer holds afterwards. Assumes nothing.
use Rattle.std.specs.Prelude.{ℕ, zero, suc, ◌-◌, min, max, Bool, true, false, cond, not, ◌&&◌, ◌||◌, List, [], ◌∷◌, map, ltb, eqb, length}
use Rattle.calendar.specs.Tests.{any}
use Rattle.register.specs.Line.{number_in}
use Rattle.register.specs.Layout.{Register, lent, used_lines, bytes_of}
use Rattle.register.specs.Check.{next_number, check_of}
use Rattle.register.specs.Find.{last_where, has_number}
use Rattle.register.specs.File.{over}
use Rattle.register.specs.Steps.{Step}
use Rattle.joining.specs.Answers.{Written}

-- some line has a number, and the line that has it; empty where none does
abbrev pub holds : List (List ℕ) → ℕ → Bool
holds ls number = any (has_number number) ls

abbrev pub line_of : List (List ℕ) → ℕ → List ℕ
line_of ls number = last_where (has_number number) ls

-- the first number of lines; 0 where there is no line
abbrev pub first_number : List (List ℕ) → ℕ
first_number [] = 0
first_number (l ∷ ls) = number_in l

-- "the lower first", of the registers that have lines
unfoldable pub lower_first : List (List ℕ) → List (List ℕ) → ℕ
lower_first first second =
    cond (eqb (first_number first) 0) (first_number second)
    (cond (eqb (first_number second) 0) (first_number first)
    (min (first_number first) (first_number second)))

-- the number behind "the higher last"; 0 where neither has a line
unfoldable pub higher_next : List (List ℕ) → List (List ℕ) → ℕ
higher_next first second = max (next_number first) (next_number second)

-- so many numbers, from a given one on
abbrev pub numbers_from : ℕ → ℕ → List ℕ
numbers_from number zero = []
numbers_from number (suc count) = number ∷ numbers_from (suc number) count

-- "every number from the lower first to the higher last, each once"
unfoldable pub joined_numbers : List (List ℕ) → List (List ℕ) → List ℕ
joined_numbers first second = numbers_from (lower_first first second) (higher_next first second - lower_first first second)

-- the result's line of a number: "Each line of the result belongs to one of the two"
unfoldable pub joined_line : List (List ℕ) → List (List ℕ) → ℕ → List ℕ
joined_line first second number = cond (holds first number) (line_of first number) (line_of second number)

-- the result's lines
unfoldable pub joined_lines : List (List ℕ) → List (List ℕ) → List (List ℕ)
joined_lines first second = map (joined_line first second) (joined_numbers first second)

-- two lines have "equal characters"
unfoldable pub same_characters : List ℕ → List ℕ → Bool
same_characters [] [] = true
same_characters [] (d ∷ ds) = false
same_characters (c ∷ cs) [] = false
same_characters (c ∷ cs) (d ∷ ds) = eqb c d && same_characters cs ds

-- "a common number has unlike lines"
unfoldable pub has_unlike : List (List ℕ) → List (List ℕ) → ℕ → Bool
has_unlike first second number =
    (holds first number && holds second number) && not (same_characters (line_of first number) (line_of second number))

-- "a number between is in neither"
unfoldable pub in_neither : List (List ℕ) → List (List ℕ) → ℕ → Bool
in_neither first second number = not (holds first number || holds second number)

-- "where a common number has unlike lines or a number between is in neither"
unfoldable pub not_joinable : List (List ℕ) → List (List ℕ) → Bool
not_joinable first second =
    any (λ number. has_unlike first second number || in_neither first second number) (joined_numbers first second)

-- "the third buffer is too short" for the result
abbrev pub is_too_short : ℕ → List (List ℕ) → Bool
is_too_short buffer ls = ltb buffer (length (bytes_of ls))

-- a register is not "valid": its check refuses it
abbrev pub not_valid : Register → Bool
not_valid r = not (eqb (check_of r).refusal 0)

-- the refusals' numbers: a register is bad, the two can't be joined, the third buffer is too short
abbrev pub bad_register : ℕ
bad_register = 11

abbrev pub cannot_join : ℕ
cannot_join = 16

abbrev pub no_room : ℕ
no_room = 17

-- "The checks stand in the order 11 (first, then second), 16, 17"
unfoldable pub join_refusal : Register → Register → List ℕ → ℕ
join_refusal first second target =
    cond (not_valid first) bad_register
    (cond (not_valid second) bad_register
    (cond (not_joinable (used_lines first) (used_lines second)) cannot_join
    (cond (is_too_short (length target) (joined_lines (used_lines first) (used_lines second))) no_room
    0)))

-- the result's lines one after the other
unfoldable pub joined_text : Register → Register → List ℕ
joined_text first second = bytes_of (joined_lines (used_lines first) (used_lines second))

-- a text is written: "The result stands at that buffer's start, its used length is returned", and "Bytes past the result stay"
abbrev pub written_step : List ℕ → List ℕ → Step Written (List ℕ)
written_step text target = record { answer = record { refusal = 0; used = length text }; state = over 0 text target }

-- a refusal has used length 0, "always leaving that buffer untouched"
abbrev pub refused_answer : ℕ → Written
refused_answer refusal = record { refusal = refusal; used = 0 }

abbrev pub refused_step : ℕ → List ℕ → Step Written (List ℕ)
refused_step refusal target = record { answer = refused_answer refusal; state = target }

-- joining: the answer, and what the third buffer then holds
unfoldable pub join_step : Register → Register → List ℕ → Step Written (List ℕ)
join_step first second target =
    cond (eqb (join_refusal first second target) 0) (written_step (joined_text first second) target)
    (refused_step (join_refusal first second target) target)

-- the register that joining leaves in the buffer
abbrev pub joined : Register → Register → List ℕ → Register
joined first second target =
    lent (join_step first second target).state (join_step first second target).answer.used
