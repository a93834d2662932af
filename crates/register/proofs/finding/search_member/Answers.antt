-- `search_member` gives the place of the member's last line and how many lines it compared: what all lines answer, those answer that
-- the chunks from the back have left.
use Prim.Native.Nat.{suc, ◌+◌, ◌-◌, ◌/◌, ◌<◌}
use mathlib.Core.Path.{◌≡◌, sym, ◌∙◌, ap}
use native.Mathlib.Omega.{arith}
use lib.ListN.{length}
use Rattle.std.proofs.Common.{rules}
use Rattle.register.specs.Line.{text_length}
use Rattle.register.specs.Layout.{line_layout, line_length, cut_lines}
use Rattle.register.specs.Find.{with_found}
use Rattle.register.proofs.LayoutLaws.{cut_count}
use Rattle.register.proofs.CheckLaws.{number_inside}
use Rattle.register.proofs.FindLoop.{back_first, back_left, back_digits, back_hit, back_miss, back_none, counted_hit, counted_none, member_digits, member_told}
use Rattle.register.proofs.finding.search_member.Goals as goal

pub loop-newer-init : goal.loop-newer-init
unfolding text_length
loop-newer-init c =
    let e = c.into_iter-newer-iterator.ensures.into_iter_gives in
    let chunks = c.rchunks_exact.ensures in (
      search rules,
      search rules,
      rw (e, c.enumerate-newer-items.ensures.source) chunks.size,
      rw (e, c.enumerate-newer-items.ensures.source, c.enumerate-newer-items.ensures.count)
          (back_first line_layout _ _ _ _ chunks.parts chunks.remainder_len c.requires.0),
    )

pub has_figure-requires : goal.has_figure-requires
unfolding text_length
has_figure-requires c =
    let l = c.loop-newer in
    let step = c.in-Some.ensures.steps in
    let size = step.0.2.1 ∙ l.invariant.2 in (
      size,
      back_digits line_layout _ _ _ _ _ l.invariant.3 _ _ step.0.2.0 size number_inside (omega arith) c.requires.1,
      member_digits _ _ c.write_figure.ensures,
    )

pub overflow_sub-place : goal.overflow_sub-place
unfolding text_length
overflow_sub-place c =
    let l = c.loop-newer in
    let step = c.in-Some.ensures.steps in
    omega (arith, back_left line_layout _ _ _ _ _ l.invariant.3 _ _ step.0.2.0 (step.0.2.1 ∙ l.invariant.2))

pub overflow_sub-place-then-has_figure : goal.overflow_sub-place-then-has_figure
unfolding text_length
overflow_sub-place-then-has_figure c =
    let l = c.loop-newer in
    let step = c.in-Some.ensures.steps in
    omega (arith, step.1, back_left line_layout _ _ _ _ _ l.invariant.3 _ _ step.0.2.0 (step.0.2.1 ∙ l.invariant.2))

pub returns-then-has_figure : goal.returns-then-has_figure
unfolding text_length
returns-then-has_figure c =
    let l = c.loop-newer in
    let step = c.in-Some.ensures.steps in
    let size = step.0.2.1 ∙ l.invariant.2 in
    let n = length c.args.lines.now / line_length in
    let newer = l.newer-iterator.count in
    let left : newer < n = back_left line_layout _ _ _ _ _ l.invariant.3 _ _ step.0.2.0 size in
    let all : n - 1 - newer + suc newer ≡ length (cut_lines line_layout n c.args.lines.now) =
    omega (arith, left, cut_count line_layout n c.args.lines.now) in
    let told = member_told _ _ c.write_figure.ensures _ _ (omega arith) c.has_figure.ensures ∙ c.if-has_figure.true in
    let last = back_hit line_layout _ _ _ _ _ l.invariant.3 _ _ step.0.2.0 size told in
    (rw step.1 last, c.with_found.ensures ∙ ap with_found step.1 ∙ counted_hit _ _ _ newer last all)

pub loop-newer-preserved : goal.loop-newer-preserved
unfolding text_length
loop-newer-preserved c =
    let l = c.loop-newer in
    let next = c.in-Some.ensures in
    let step = next.steps in
    let goes = next.goes.on l.invariant.1 in
    let told = member_told _ _ c.write_figure.ensures _ _ (omega arith) c.has_figure.ensures ∙ c.if-has_figure.false in (
      goes.0,
      goes.1,
      step.0.0 ∙ l.invariant.2,
      rw step.2 (back_miss line_layout _ _ _ _ _ l.invariant.3 _ _ step.0.2.0 (step.0.2.1 ∙ l.invariant.2) told),
    )

pub returns : goal.returns
unfolding text_length
returns c =
    let l = c.loop-newer in
    let none = back_none line_layout _ _ _ _ _ l.invariant.3 (omega (arith, c.in-None.ensures.steps.0.2, l.invariant.2)) in
    let count = cut_count line_layout (length c.args.lines.now / line_length) c.args.lines.now in
    (none, sym count ∙ counted_none _ _ none)
