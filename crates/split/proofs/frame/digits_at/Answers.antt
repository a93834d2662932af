-- `digits_at` is the definition `number_at`, a digit at a time; eight digits fit its type.
use mathlib.Core.Path.{refl}
use native.Mathlib.Numerals.{add-one}
use native.Mathlib.Omega.{arith}
use Rattle.split.specs.Frame.{number_at}
use Rattle.split.proofs.FrameLaws.{number_room}
use Rattle.split.proofs.frame.digits_at.Goals as goal

pub loop-i-init : goal.loop-i-init
unfolding number_at
loop-i-init c = refl

pub overflow_mul-value : goal.overflow_mul-value
overflow_mul-value c = omega (arith, c.loop-i.invariant, number_room c.args.line.now c.args.at c.loop-i.i (omega arith))

pub overflow_add-value : goal.overflow_add-value
overflow_add-value c = omega (arith, c.loop-i.invariant, number_room c.args.line.now c.args.at c.loop-i.i (omega arith))

pub loop-i-preserved : goal.loop-i-preserved
unfolding number_at
loop-i-preserved c = rw (add-one, c.loop-i.invariant, c.digit_at.ensures.0)
