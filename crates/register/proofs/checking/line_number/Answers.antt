-- `line_number` works the number out a digit at a time: the first `i` characters make the value where they are digits.
use Prim.Native.Nat.{◌<◌}
use native.Mathlib.Omega.{arith}
use Rattle.register.proofs.CheckLoop.{read_none, read_room, read_more, read_all}
use Rattle.register.proofs.checking.line_number.Goals as goal
use Rattle.register.proofs.checking.line_number.Goals.{In-loop-i}

room : (c : In-loop-i) → c.loop-i.value < 268435456
room c = read_room c.loop-i.invariant c.loop-i-test.true

pub loop-i-init : goal.loop-i-init
loop-i-init c = read_none

pub overflow_mul-value : goal.overflow_mul-value
overflow_mul-value c = omega (arith, room ((goal.at.overflow_mul-value c).In-loop-i))

pub overflow_add-value : goal.overflow_add-value
overflow_add-value c = omega (arith, room ((goal.at.overflow_add-value c).In-loop-i))

pub loop-i-preserved : goal.loop-i-preserved
loop-i-preserved c = read_more c.loop-i.invariant c.loop-i-test.true c.digit_value.ensures

pub returns : goal.returns
returns c = read_all c.loop-i.invariant c.loop-i-test.false
