-- `is_unlike` tells whether characters differ: what the whole parts answer, the flag and the rest from a place on answer.
use mathlib.Core.Bool.{not}
use mathlib.Core.Path.{ap, sym}
use native.Mathlib.Omega.{arith}
use Rattle.joining.proofs.JoinLaws.{unlike_more, unlike_all, unlike_lengths}
use Rattle.joining.proofs.is_unlike.Goals as goal

pub returns-then-first-second : goal.returns-then-first-second
returns-then-first-second c = ap not (sym (unlike_lengths _ _ c.if-first-second.true))

pub loop-place-preserved : goal.loop-place-preserved
loop-place-preserved c =
    let l = c.loop-place in
    unlike_more _ _ l.place _ l.unlike l.invariant c.loop-place-test.true (omega (arith, c.loop-place-test.true, c.if-first-second.false))

pub returns : goal.returns
returns c =
    let l = c.loop-place in
    unlike_all _ _ l.place _ l.unlike l.invariant c.loop-place-test.false (omega (arith, c.loop-place-test.false, c.if-first-second.false))
