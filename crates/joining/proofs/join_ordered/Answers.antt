-- `join_ordered` is the definition `join_step` of two sound registers in their order: a gap and an unlike part are refused, and else
-- the first is written and behind it the lines of the second that it does not have.
use mathlib.Core.Path.{refl, sym, ◌∙◌}
use native.Mathlib.Omega.{arith}
use Rattle.register.specs.Line.{text_length}
use Rattle.joining.proofs.Ordered.{both_inside, gap_refused, unlike_refused, alike_written}
use Rattle.joining.proofs.PartsLaws.{same_step}
use Rattle.joining.proofs.join_ordered.Goals as goal

pub returns-then-lines-before : goal.returns-then-lines-before
unfolding text_length
returns-then-lines-before c =
    gap_refused _ _ _ _ _ c.requires _ c.lines_before-before.ensures _ refl c.if-lines-before.true

pub slice_bounds-is_unlike-end : goal.slice_bounds-is_unlike-end
unfolding text_length
slice_bounds-is_unlike-end c =
    let inside = both_inside _ _ _ _ c.args.target.now c.requires in
    omega arith

pub slice_bounds-is_unlike-end-2 : goal.slice_bounds-is_unlike-end-2
unfolding text_length
slice_bounds-is_unlike-end-2 c =
    let inside = both_inside _ _ _ _ c.args.target.now c.requires in
    omega arith

pub returns-then-is_unlike : goal.returns-then-is_unlike
unfolding text_length
returns-then-is_unlike c =
    unlike_refused _ _ _ _ _ c.requires _ c.lines_before-before.ensures c.if-lines-before.false _
    c.min-common_length.ensures _ refl (sym c.is_unlike.ensures ∙ c.if-is_unlike.true)

pub slice_bounds-write_parts-end : goal.slice_bounds-write_parts-end
slice_bounds-write_parts-end c =
    let inside = both_inside _ _ _ _ c.args.target.now c.requires in
    omega arith

pub slice_bounds-write_parts-end-2 : goal.slice_bounds-write_parts-end-2
slice_bounds-write_parts-end-2 c =
    let inside = both_inside _ _ _ _ c.args.target.now c.requires in
    omega arith

pub returns : goal.returns
unfolding text_length
returns c =
    same_step _ _ _ _
    (alike_written _ _ _ _ _ c.requires _ c.lines_before-before.ensures c.if-lines-before.false _
    c.min-common_length.ensures (sym c.is_unlike.ensures ∙ c.if-is_unlike.false))
    c.write_parts.ensures
