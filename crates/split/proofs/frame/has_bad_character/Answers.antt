-- `has_bad_character` is the definition `bad_character`: what the whole line answers, the flag and the rest of the line answer.
use mathlib.Core.Path.{refl}
use native.Mathlib.Omega.{arith}
use Rattle.split.specs.Frame.{bad_character, is_no_digit}
use Rattle.calendar.proofs.TestsLaws.{flag_more}
use Rattle.split.proofs.FrameLaws.{no_digit_by}
use Rattle.split.proofs.frame.has_bad_character.Goals as goal

pub loop-character-init : goal.loop-character-init
unfolding bad_character
loop-character-init c = refl

pub loop-character-preserved : goal.loop-character-preserved
loop-character-preserved c =
    flag_more is_no_digit _ c.loop-character.character-index 0 _ _ _ (omega arith) (no_digit_by _ c.hex_value.ensures) c.loop-character.invariant
