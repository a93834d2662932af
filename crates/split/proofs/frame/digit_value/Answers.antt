-- `digit_value` is the definition `hex_value` where the character is a digit: the arithmetic is computed at every character.
use native.Mathlib.Omega.{arith}
use Rattle.split.proofs.FrameLaws.{digit_worth}
use Rattle.split.proofs.frame.digit_value.Goals as goal

pub returns : goal.returns
returns c = (omega arith, λ good. digit_worth c.args.character (omega arith) good)
