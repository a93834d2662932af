-- `scan_lines` finds what the check of the lines finds: the lines from `at` on answer for all; a line that passes the tests of its
-- number and of all its characters has no fault, and of any other the characters before `place` are good.
use Prim.Native.Nat.{ℕ, ◌+◌, ◌≤◌, ◌<◌}
use mathlib.Core.Bool.{false, not}
use mathlib.Core.List.{List}
use mathlib.Core.Path.{◌≡◌, refl, sym, ◌∙◌}
use native.Mathlib.Omega.{arith}
use lib.Dec.{eqb}
use lib.ListN.{length, get_or, take, drop, length-take, length-drop}
use lib.Seq.{get_or-take, get_or-drop}
use borrow.Author.Tests.{eqb-true, not-false}
use Rattle.calendar.proofs.TestsLaws.{and_left, and_right, or_left, or_right}
use Rattle.register.specs.Line.{figure_width, text_length}
use Rattle.register.specs.Layout.{line_layout}
use Rattle.register.proofs.CheckLaws.{number_inside}
use Rattle.register.proofs.CheckLoop.{right_next, good_more, good_whole, left_start, left_done, left_inside, stop_number, stop_character, left_on, scanned_unsound}
use Rattle.register.proofs.checking.scan_lines.Invariants.{lineSize}
use Rattle.register.proofs.checking.scan_lines.Goals as goal
use Rattle.register.proofs.checking.scan_lines.Goals.{In-loop-place, Else-place-wrong, Else-used-at, else-wrong-whole, then-wrong-whole+else-loop-place-test}

-- a whole line is left
inside : (c : Else-used-at) → c.lines.at + lineSize ≤ c.args.used
unfolding text_length
inside c = left_inside line_layout number_inside _ c.lines.invariant c.if-used-at.false

pub lines-init : goal.lines-init
lines-init c = left_start line_layout number_inside _ _ c.requires.1

pub line_number-number-requires : goal.line_number-number-requires
line_number-number-requires c = omega (arith, inside ((goal.at.line_number-number-requires c).Else-used-at))

pub slice_bounds-has_layout-end : goal.slice_bounds-has_layout-end
slice_bounds-has_layout-end c = omega (arith, inside ((goal.at.slice_bounds-has_layout-end c).Else-used-at))

pub has_layout-whole-requires : goal.has_layout-whole-requires
unfolding text_length
has_layout-whole-requires c = simp (length-take, length-drop) (omega (arith, inside ((goal.at.has_layout-whole-requires c).Else-used-at)))

-- a place that is gone through is one of the line's
turn : (c : In-loop-place) → c.loop-place.place < lineSize
turn c = omega (arith, simp (length-take, length-drop) at c.loop-place-test.true)

-- a character of a part of the register is the register's
read : (n at place : ℕ) (s : List ℕ) → place < length (take n (drop at s)) → get_or (take n (drop at s)) place 0 ≡ get_or s (at + place) 0
read n at place s h = get_or-take n (drop at s) place 0 (omega (arith, simp length-take at h)) ∙ get_or-drop at s place 0

-- at a place past the number's the number is right
right : (c : Else-place-wrong) → figure_width ≤ c.loop-place.place
    → c.is_wrong_number-wrong.result ≡ false
right c = right_next c.loop-place.place _ c.if-place-wrong.false c.loop-place.invariant.2

pub loop-place-preserved : goal.loop-place-preserved
unfolding text_length
loop-place-preserved c =
    let p = c.loop-place in (
      omega (arith, turn ((goal.at.loop-place-preserved c).In-loop-place)),
      good_more line_layout number_inside c.args.register.now c.lines.at p.place (turn ((goal.at.loop-place-preserved c).In-loop-place)) p.invariant.1
          (rw (read _ c.lines.at p.place _ c.loop-place-test.true) at (sym c.is_bad.ensures ∙ c.if-is_bad.false)),
      λ h. right ((goal.at.loop-place-preserved c).Else-place-wrong) (omega arith),
    )

pub lines-preserved : goal.lines-preserved
unfolding text_length
lines-preserved c =
    let s = c.args.register.now in
    let on = left_on line_layout number_inside s c.lines.invariant c.if-used-at.false c.line_number-number.result c.line_number-number.ensures in
    elim c.if-wrong-whole.branch [
      | then-wrong-whole+else-loop-place-test b ↦ let all : b.loop-place.place ≡ lineSize = omega (arith, simp (length-take, length-drop) at b.loop-place-test.false, inside ((goal.at.lines-preserved c).Else-used-at)) in
          on (rw all at b.loop-place.invariant.1) (sym c.is_wrong_number-wrong.ensures ∙ b.loop-place.invariant.2 (omega arith)) refl
      | else-wrong-whole b ↦ on
          (good_whole line_layout number_inside s c.lines.at c.has_layout-whole.result (omega (arith, inside ((goal.at.lines-preserved c).Else-used-at))) c.has_layout-whole.ensures
          (not-false _ (or_right c.is_wrong_number-wrong.result (not c.has_layout-whole.result) b.if-wrong-whole.false)))
          (sym c.is_wrong_number-wrong.ensures ∙ or_left c.is_wrong_number-wrong.result (not c.has_layout-whole.result) b.if-wrong-whole.false) refl
    ]

pub returns-then-used-at : goal.returns-then-used-at
returns-then-used-at c =
    let d = left_done line_layout number_inside _ c.lines.invariant c.if-used-at.true in
    record { checked = sym d.0; numbered = λ _. sym d.1 }

pub returns-then-place-wrong : goal.returns-then-place-wrong
returns-then-place-wrong c =
    let p = c.loop-place in
    let here : p.place ≡ figure_width =
    eqb-true p.place figure_width (and_left (eqb p.place figure_width) c.is_wrong_number-wrong.result c.if-place-wrong.true)
    in
    scanned_unsound
    (stop_number line_layout number_inside _ c.lines.invariant c.if-used-at.false _ c.line_number-number.ensures (rw here at p.invariant.1)
    (sym c.is_wrong_number-wrong.ensures ∙ and_right (eqb p.place figure_width) c.is_wrong_number-wrong.result c.if-place-wrong.true))

pub returns-then-is_bad : goal.returns-then-is_bad
unfolding text_length
returns-then-is_bad c =
    let p = c.loop-place in
    scanned_unsound
    (stop_character line_layout number_inside _ c.lines.invariant c.if-used-at.false _ c.line_number-number.ensures p.place (turn ((goal.at.returns-then-is_bad c).In-loop-place)) p.invariant.1
    (rw (read _ c.lines.at p.place _ c.loop-place-test.true) at (sym c.is_bad.ensures ∙ c.if-is_bad.true)) (λ h. sym c.is_wrong_number-wrong.ensures ∙ right ((goal.at.returns-then-is_bad c).Else-place-wrong) h))
