-- `locate_number` is the definition `locate`: by what the check gave, and then by the number's place.
use mathlib.Core.Path.{refl, sym, ◌∙◌}
use native.Mathlib.Omega.{arith}
use lib.Seq.{length-take-le}
use Rattle.std.proofs.lemmas.Result.{err_from_is_err_and}
use Rattle.register.specs.Line.{text_length}
use Rattle.register.specs.Layout.{line_layout}
use Rattle.register.proofs.FindLoop.{unchecked, lines_sound, alone_sound, found_alone, answered, place_fits}
use Rattle.register.proofs.finding.locate_number.Goals as goal

pub returns-in_err-check : goal.returns-in_err-check
returns-in_err-check c =
    let e = err_from_is_err_and c.from_residual.result c.from_residual.ensures.1 in
    rw (e.1, e.2) (sym (unchecked line_layout _ _ c.in_err-check.ensures _ (λ z. omega arith)))

pub slice_bounds-place_of_number-end : goal.slice_bounds-place_of_number-end
slice_bounds-place_of_number-end c = sym (length-take-le _ _ (lines_sound line_layout _ _ c.in_ok-check.ensures refl).0)

pub place_of_number-place-requires : goal.place_of_number-place-requires
place_of_number-place-requires c = alone_sound line_layout _ _ c.in_ok-check.ensures refl

pub line_at-requires : goal.line_at-requires
unfolding text_length
line_at-requires c =
    place_fits line_layout _ _ _ (found_alone line_layout _ _ c.in_ok-check.ensures refl _ _ c.place_of_number-place.ensures)
    c.ranges.used.fits

pub returns : goal.returns
unfolding text_length
returns c =
    let found = found_alone line_layout _ _ c.in_ok-check.ensures refl _ _ c.place_of_number-place.ensures in
    c.line_at.ensures ∙ sym (answered line_layout _ _ c.in_ok-check.ensures refl _ _ found)
