-- `has_layout` tests the digits and the newline's place, each as the contract has it: the digits in two parts that overlap.
use mathlib.Core.Bool.{Bool, not, ◌&&◌}
use mathlib.Core.Path.{ap}
use native.Mathlib.Omega.{arith}
use lib.Dec.{eqb}
use lib.ListN.{get_or}
use Rattle.register.specs.Line.{text_length}
use Rattle.register.proofs.CheckLoop.{spans_judged}
use Rattle.register.proofs.checking.has_layout.Goals as goal

pub slice_bounds-has_bad_character-end : goal.slice_bounds-has_bad_character-end
unfolding text_length
slice_bounds-has_bad_character-end c = omega arith

pub slice_bounds-has_bad_character-end-2 : goal.slice_bounds-has_bad_character-end-2
unfolding text_length
slice_bounds-has_bad_character-end-2 c = omega arith

pub bounds-line-120 : goal.bounds-line-120
unfolding text_length
bounds-line-120 c = omega arith

pub returns : goal.returns
unfolding text_length
returns c =
    let line = c.args.line.now in
    ap (λ (b : Bool). not b && eqb (get_or line text_length 0) 10)
    (spans_judged line 112 104 16 _ _ (omega arith) (omega arith) (omega arith) c.has_bad_character-bad_whole.ensures
    c.has_bad_character-bad_last.ensures)
