-- Finding a line by its number, and a member's newest line ("Register" and refusal 14 of document 01), and how many lines
-- that compared (request [1] of document 02), for any layout of a line. Assumes nothing.
use Rattle.std.specs.Prelude.{ℕ, suc, ◌+◌, ◌*◌, ◌≤◌, Bool, true, cond, List, [], ◌∷◌, ◌++◌, ◌≡◌, eqb, length}
use Rattle.calendar.specs.Tests.{any}
use Rattle.register.specs.Answers.{Located, LocatedMember}
use Rattle.register.specs.Line.{number_in, member_in}
use Rattle.register.specs.Layout.{Register, Layout, length_of, used_lines_by, line_layout}
use Rattle.register.specs.Check.{check_by}

-- the last line that passes a test; empty where there is none
unfoldable pub last_where : (List ℕ → Bool) → List (List ℕ) → List ℕ
last_where f [] = []
last_where f (l ∷ ls) = cond (any f ls) (last_where f ls) (cond (f l) l [])

-- its place, counted from 0; 0 where there is none
unfoldable pub last_place : (List ℕ → Bool) → List (List ℕ) → ℕ
last_place f [] = 0
last_place f (l ∷ ls) = cond (any f ls) (suc (last_place f ls)) 0

abbrev pub has_number : ℕ → List ℕ → Bool
has_number number l = eqb (number_in l) number

abbrev pub has_member : ℕ → List ℕ → Bool
has_member member l = eqb (member_in l) member

-- "11", else "14. Finding: number or member absent (after 11)", else none
unfoldable pub find_refusal_by : Layout → (List ℕ → Bool) → Register → ℕ
find_refusal_by y f r = cond (eqb (check_by y r).refusal 0) (cond (any f (used_lines_by y r)) 0 14) 11

-- the line found: "a line handed back is empty" under a refusal
unfoldable pub find_line_by : Layout → (List ℕ → Bool) → Register → List ℕ
find_line_by y f r = cond (eqb (check_by y r).refusal 0) (last_where f (used_lines_by y r)) []

-- "that line's own bytes of the register", as numbers: the refusal, where the line found begins and how long it is
unfoldable pub locate_by : Layout → (List ℕ → Bool) → Register → Located
locate_by y f r =
    cond (eqb (find_refusal_by y f r) 0)
    (record { refusal = 0; offset = last_place f (used_lines_by y r) * length_of y; length = length_of y })
    (record { refusal = find_refusal_by y f r; offset = 0; length = 0 })

-- "the number of newer lines": those behind the last one that passes a test; 0 where there is none
unfoldable pub newer_lines : (List ℕ → Bool) → List (List ℕ) → ℕ
newer_lines f [] = 0
newer_lines f (l ∷ ls) = cond (any f ls) (newer_lines f ls) (cond (f l) (length ls) 0)

-- "one more than the number of newer lines": the line found is compared too
unfoldable pub with_found : ℕ → ℕ
with_found newer = newer + 1

-- "how many register lines it compared, starting from the newest": up to the line found, itself included, "or all lines where
-- the member is absent"
unfoldable pub lines_compared : (List ℕ → Bool) → List (List ℕ) → ℕ
lines_compared f ls = cond (any f ls) (with_found (newer_lines f ls)) (length ls)

-- "Under 11 it is zero"
unfoldable pub compared_by : Layout → (List ℕ → Bool) → Register → ℕ
compared_by y f r = cond (eqb (check_by y r).refusal 0) (lines_compared f (used_lines_by y r)) 0

-- "The refusal and any count come as numbers from a call beside it": where a member's newest line is, and how many lines were
-- compared
unfoldable pub locate_member_by : Layout → ℕ → Register → LocatedMember
locate_member_by y member r =
    record { located = locate_by y (has_member member) r; compared = compared_by y (has_member member) r }

-- What is claimed of the count, in every register.
pub record CountClaim (y : Layout) (f : List ℕ → Bool) (r : Register) : Type 0 where
  -- "never above the number of lines"
  pub most : compared_by y f r ≤ length (used_lines_by y r)
  -- "Under 11 it is zero"
  pub unsound : find_refusal_by y f r ≡ 11 → compared_by y f r ≡ 0
  -- "under 14 it is the only figure that may differ from zero": it is all lines
  pub absent : find_refusal_by y f r ≡ 14
      → (compared_by y f r ≡ length (used_lines_by y r)) × (locate_by y f r ≡ record { refusal = 14; offset = 0; length = 0 })
  -- the lines older than the one found, and those compared, are all lines
  pub found : find_refusal_by y f r ≡ 0 → last_place f (used_lines_by y r) + compared_by y f r ≡ length (used_lines_by y r)
  -- 1 where the newest line passes
  pub newest : (check_by y r).refusal ≡ 0 → (older : List (List ℕ)) (l : List ℕ) → used_lines_by y r ≡ older ++ (l ∷ [])
      → f l ≡ true → compared_by y f r ≡ 1

abbrev pub find_refusal : (List ℕ → Bool) → Register → ℕ
find_refusal f r = find_refusal_by line_layout f r

abbrev pub find_line : (List ℕ → Bool) → Register → List ℕ
find_line f r = find_line_by line_layout f r

abbrev pub locate : (List ℕ → Bool) → Register → Located
locate f r = locate_by line_layout f r

abbrev pub locate_member : ℕ → Register → LocatedMember
locate_member member r = locate_member_by line_layout member r
