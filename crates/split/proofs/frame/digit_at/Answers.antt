-- `digit_at` is the definition `digit_at`: a character of the line, or the 0 that stands past its end.
use native.Mathlib.Omega.{arith}
use lib.ListN.{get_or-eq_default}
use Rattle.split.specs.Frame.{digit_at, hex_value}
use Rattle.split.proofs.frame.digit_at.Goals as goal

pub returns-in-Some : goal.returns-in-Some
unfolding digit_at
returns-in-Some c = (simp (digit_at, c.hex_value.ensures, c.in-Some.ensures.lookup.3.1 0), omega arith)

pub returns-in-None : goal.returns-in-None
unfolding digit_at hex_value
returns-in-None c = (simp (digit_at, get_or-eq_default c.args.line.now 0 {n = c.args.at} c.in-None.ensures.lookup.3), omega arith)
