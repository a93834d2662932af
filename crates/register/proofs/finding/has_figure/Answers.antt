-- `has_figure` compares the numbers that the digits write: what all of them tell, the first `i` tell.
use Prim.Native.Nat.{◌-◌}
use mathlib.Core.Path.{refl, sym}
use native.Mathlib.Omega.{arith}
use Rattle.register.specs.Line.{text_length, member_place, member_in}
use Rattle.register.proofs.FindLoop.{figure_same, figure_other, figure_all}
use Rattle.register.proofs.finding.has_figure.Goals as goal

pub loop-i-init : goal.loop-i-init
loop-i-init c = refl

pub bounds-line-i : goal.bounds-line-i
unfolding text_length
bounds-line-i c = omega arith

pub returns-then-line-i : goal.returns-then-line-i
unfolding member_in
returns-then-line-i c =
    let l = c.loop-i in
    sym
    (figure_other _ member_place _ _ l.i (omega arith) l.invariant
    (c.requires.1 (l.i - 1) (omega arith)) (c.requires.2 (l.i - 1) (omega arith)) c.if-line-i.true)

pub loop-i-preserved : goal.loop-i-preserved
loop-i-preserved c =
    let l = c.loop-i in
    figure_same _ member_place _ _ l.i (omega arith) l.invariant c.if-line-i.false

pub returns : goal.returns
unfolding member_in
returns c = sym (figure_all _ member_place _ _ c.loop-i.i (omega arith) c.loop-i.invariant)
