-- `has_figure` compares the numbers that the digits write: what all of them tell, the first `i` tell.
use mathlib.Core.Path.{◌≡◌}
use Rattle.register.specs.Line.{figure_width, member_place}
use Rattle.register.proofs.FindLoop.{same_figure}
use Rattle.register.proofs.finding.has_figure.Given as goal

abbrev pub invariant-loop-i : goal.invariant-loop-i
invariant-loop-i l = same_figure l.line member_place l.digits figure_width ≡ same_figure l.line member_place l.digits l.i
