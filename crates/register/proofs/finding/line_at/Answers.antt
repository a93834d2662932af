-- `line_at` is the definition `placed`: by whether there is a place.
use native.Mathlib.Omega.{arith}
use Rattle.register.specs.Line.{text_length}
use Rattle.register.proofs.finding.line_at.Goals as goal

pub overflow_mul-result : goal.overflow_mul-result
unfolding text_length
overflow_mul-result c = omega (arith, rw c.in_ok-place.ensures.ok_part at c.requires)

pub returns : goal.returns
unfolding text_length
returns c = simp c.in_ok-place.ensures.ok_part
