-- Filing a case ("Register" and "Refusals from the state" of document 01, and request [5] of document 02): a step of the register.
-- Assumes nothing.
use Rattle.std.specs.Prelude.{ℕ, ◌+◌, ◌-◌, ◌*◌, Bool, cond, not, List, [], ◌∷◌, ◌++◌, ◌≡◌, leb, ltb, eqb, length, take, drop}
use Rattle.calendar.specs.Tests.{lowest}
use Rattle.split.specs.Case.{head_of}
use Rattle.split.specs.Refusal.{refusal_of}
use Rattle.register.specs.Answers.{Filed}
use Rattle.register.specs.Line.{figures_for, figures_in, line_for}
use Rattle.register.specs.Layout.{Register, line_length, used_lines}
use Rattle.register.specs.Check.{next_number, check_of}
use Rattle.register.specs.Find.{has_number, find_refusal, find_line}
use Rattle.register.specs.Steps.{Step, runs}

-- what is filed: "a first number of 4 bytes" and a case line. The calls take 32 bits for the first; here it is any number.
pub record Filing : Type 0 where
  pub first : ℕ
  pub line : List ℕ

abbrev pub filing : ℕ → List ℕ → Filing
filing first c = record { first = first; line = c }

-- the number that a filing gives in an empty register, and so sets: its first number, "with 0 meaning the default", which is
-- "the commencement year of the case × 100,000 + 1"
unfoldable pub number_set : Filing → ℕ
number_set f = cond (eqb f.first 0) ((head_of f.line).commencement.year * 100000 + 1) f.first

-- the number given, where `next` is the number that a next line must have and 0 stands for any, as where there is no line:
-- "A register that has lines ignores" the first number
abbrev pub number_from : ℕ → Filing → ℕ
number_from next f = cond (eqb next 0) (number_set f) next

-- the number that a filing gives behind lines: the one it sets where there is none, "else the last plus one"
unfoldable pub number_given : List (List ℕ) → Filing → ℕ
number_given ls f = number_from (next_number ls) f

-- 12. "Fewer than 121 bytes free"
abbrev pub no_space : ℕ → ℕ → Bool
no_space buffer used = ltb (buffer - used) line_length

-- 13. "Last number is FFFFFFFF": the number to give does not fit eight digits (`thirteen_last`). A first number of 4 bytes fits, and
-- so does the default of an accepted case, so that an empty register never gives 13 (`thirteen_empty`).
abbrev pub last_taken : List (List ℕ) → Filing → Bool
last_taken ls f = leb 4294967296 (number_given ls f)

-- "Filing gives these after all of the above": refusals 1 to 10 of the case, then 11, 12 and 13 of the state
unfoldable pub refusal_given : Filing → Bool → ℕ → ℕ → List (List ℕ) → ℕ
refusal_given f unsound buffer used ls =
    cond (eqb (refusal_of f.line) 0) (lowest 11 (unsound ∷ no_space buffer used ∷ last_taken ls f ∷ [])) (refusal_of f.line)

unfoldable pub file_refusal : Register → Filing → ℕ
file_refusal r f =
    refusal_given f (not (eqb (check_of r).refusal 0)) (length r.bytes) r.used (used_lines r)

-- an answer: no refusal and the used length past the new line, or the refusal and 0
unfoldable pub filed_answer : ℕ → ℕ → Filed
filed_answer refusal used = cond (eqb refusal 0) (record { refusal = 0; used = used }) (record { refusal = refusal; used = 0 })

-- what filing writes: the next line, and nothing under a refusal
unfoldable pub text_filed : Register → Filing → List ℕ
text_filed r f = cond (eqb (file_refusal r f) 0) (line_for (number_given (used_lines r) f) f.line) []

-- a text written over bytes from a place on, "and no other byte"
abbrev pub over : ℕ → List ℕ → List ℕ → List ℕ
over at x s = take at s ++ (x ++ drop (at + length x) s)

-- "after the used part", which is then longer by the text
abbrev pub grown : Register → List ℕ → Register
grown r x = record { bytes = over r.used x r.bytes; used = r.used + length x }

-- filing: the answer, and the register from then on
unfoldable pub file_step : Register → Filing → Step Filed Register
file_step r f =
    record {
      answer = filed_answer (file_refusal r f) (grown r (text_filed r f)).used;
      state = grown r (text_filed r f);
    }

-- "Each filing gets the buffer and the used length as the one before left them"
abbrev pub file_run : Register → List Filing → Step (List Filed) Register
file_run r fs = runs file_step r fs

-- What is claimed of a line filed under a number, in the register that its filing and any later ones left (demand 2).
pub record FiledFound (number : ℕ) (f : Filing) (after : Register) : Type 0 where
  -- found by that number, it is not refused and is that very line
  pub present : find_refusal (has_number number) after ≡ 0
  pub line : find_line (has_number number) after ≡ line_for number f.line
  -- so it shows the member and the figures granted to the case, read back from its digits
  pub shows : figures_in (find_line (has_number number) after) ≡ figures_for number f.line
