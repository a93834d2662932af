-- `hex_character` is the definition `hex_character`, by the test of each branch.
use Rattle.std.proofs.Common.{arith, rules}
use Rattle.split.proofs.HexLaws.{hex_low, hex_high}
use Rattle.register.proofs.layout.hex_character.Goals as goal

pub returns-then-digit-lt10 : goal.returns-then-digit-lt10
returns-then-digit-lt10 c = omega (arith, hex_low c.args.digit (search rules))

pub returns-else-digit-lt10 : goal.returns-else-digit-lt10
returns-else-digit-lt10 c = omega (arith, hex_high c.args.digit (search rules))
