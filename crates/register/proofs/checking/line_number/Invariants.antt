-- `line_number` works the number out a digit at a time: the first `i` characters make the value where they are digits.
use Rattle.register.proofs.CheckLoop.{FigureRead}
use Rattle.register.proofs.checking.line_number.Given as goal

abbrev pub invariant-loop-i : goal.invariant-loop-i
invariant-loop-i l = FigureRead l.register l.at l.value l.i
