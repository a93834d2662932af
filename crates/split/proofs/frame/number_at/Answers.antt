-- `number_at` is eight digits; past the end they are zeros.
use mathlib.Core.Path.{sym}
use Rattle.split.proofs.FrameLaws.{number_past}
use Rattle.split.proofs.frame.number_at.Goals as goal

pub returns : goal.returns
returns c = sym (number_past _ _ 8 c.if-at-line.false)
