-- Definitions for the contracts of private functions: two registers of which one begins no later than the other, the lines of the
-- one before the other begins, and a text written where there is room. Nothing here has to be believed. Assumes nothing.
use Rattle.std.specs.Prelude.{ℕ, ◌-◌, ◌≤◌, cond, List, ◌≡◌, ltb, eqb, length}
use Rattle.register.specs.Layout.{Register, used_lines}
use Rattle.register.specs.Check.{check_of}
use Rattle.register.specs.Steps.{Step}
use Rattle.joining.specs.Answers.{Written}
use Rattle.joining.specs.Join.{first_number, no_room, written_step, refused_step}

-- two sound registers, of which the second does not begin before the first; one without lines begins before any
pub record Ordered (low high : Register) : Type 0 where
  pub low_sound : (check_of low).refusal ≡ 0
  pub high_sound : (check_of high).refusal ≡ 0
  pub order : first_number (used_lines low) ≤ first_number (used_lines high)

-- how many numbers the second begins behind the first's; 0 where the first has no lines
unfoldable pub lines_before : List (List ℕ) → List (List ℕ) → ℕ
lines_before low high = cond (eqb (first_number low) 0) 0 (first_number high - first_number low)

-- a text written at a buffer's start, or 17 where the buffer is too short
unfoldable pub write_step : List ℕ → List ℕ → Step Written (List ℕ)
write_step text target = cond (ltb (length target) (length text)) (refused_step no_room target) (written_step text target)
