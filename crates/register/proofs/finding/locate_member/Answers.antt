-- `locate_member` is the definition `locate_member`: by what the check gave, and then by what the search found.
use mathlib.Core.Path.{refl, sym, ◌∙◌, ap}
use native.Mathlib.Omega.{arith}
use lib.Seq.{length-take-le}
use Rattle.std.specs.Prelude.{Err}
use Rattle.refusals.specs.declared.Refusal.{Refusal}
use Rattle.register.specs.Line.{text_length}
use Rattle.register.specs.Layout.{line_layout}
use Rattle.register.specs.Find.{has_member, lines_compared}
use Rattle.register.specs.Answers.{located_as}
use Rattle.register.proofs.FindLoop.{lines_sound, same_lines, alone_whole, alone_sound, found_alone, place_fits, member_unchecked, member_answered}
use Rattle.register.proofs.finding.locate_member.Goals as goal

pub returns-in-Err : goal.returns-in-Err
returns-in-Err c =
    member_unchecked line_layout _ _ c.in-Err.ensures _ _ (λ e. omega arith) (ap (λ (r : Refusal). located_as (Err r)) c.from.ensures)

pub slice_bounds-search_member-end : goal.slice_bounds-search_member-end
slice_bounds-search_member-end c = sym (length-take-le _ _ (lines_sound line_layout _ _ c.in_default.ensures refl).0)

pub search_member-search-requires : goal.search_member-search-requires
unfolding text_length
search_member-search-requires c =
    (alone_whole line_layout _ _ c.in_default.ensures refl, alone_sound line_layout _ _ c.in_default.ensures refl)

pub line_at-requires : goal.line_at-requires
unfolding text_length
line_at-requires c =
    place_fits line_layout _ _ _ (found_alone line_layout _ _ c.in_default.ensures refl _ _ c.search_member-search.ensures.0)
    c.ranges.used.fits

pub returns : goal.returns
unfolding text_length
returns c =
    let search = c.search_member-search.ensures in
    member_answered line_layout _ _ c.in_default.ensures _ _ refl _ _
    (found_alone line_layout _ _ c.in_default.ensures refl _ _ search.0)
    (search.1 ∙ ap (lines_compared (has_member c.args.member)) (same_lines line_layout _ _ c.in_default.ensures refl))
    c.line_at.ensures
