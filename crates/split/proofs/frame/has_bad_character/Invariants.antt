-- `has_bad_character` is the definition `bad_character`: what the whole line answers, the flag and the rest of the line answer.
use mathlib.Core.Path.{◌≡◌}
use mathlib.Core.Bool.{◌||◌}
use lib.ListN.{drop}
use Rattle.split.specs.Frame.{bad_character, is_no_digit}
use Rattle.calendar.specs.Tests.{any}
use Rattle.split.proofs.frame.has_bad_character.Given as goal

abbrev pub invariant-loop-character : goal.invariant-loop-character
invariant-loop-character l = bad_character l.line ≡ (l.bad || any is_no_digit (drop l.character-index l.line))
