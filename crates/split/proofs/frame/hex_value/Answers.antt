-- `hex_value` is the definition `hex_value`: the tests of its branches are the definition's.
use native.Mathlib.Omega.{arith}
use Rattle.calendar.proofs.TestsLaws.{within_bounds}
use Rattle.split.specs.Frame.{hex_value}
use Rattle.split.proofs.frame.hex_value.Goals as goal

pub returns-then-character : goal.returns-then-character
unfolding hex_value
returns-then-character c = simp (hex_value, c.if-character.true)

pub returns-then-character-2 : goal.returns-then-character-2
unfolding hex_value
returns-then-character-2 c =
    simp (hex_value, c.if-character.false, c.if-character-2.true)
    (omega (arith, within_bounds 65 70 c.args.character c.if-character-2.true))

pub returns : goal.returns
unfolding hex_value
returns c = simp (hex_value, c.if-character.false, c.if-character-2.false)
