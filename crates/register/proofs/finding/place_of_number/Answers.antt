-- `place_of_number` gives the number's place: the first line's number begins the register, and sound numbers rise from it by one.
use Prim.Native.Nat.{ℕ, ◌+◌, ◌/◌, ◌≤◌, ◌<◌}
use mathlib.Core.Bool.{Bool, false}
use mathlib.Core.List.{List, []}
use mathlib.Core.Path.{◌≡◌, sym, ◌∙◌}
use native.Mathlib.Decide.{dec_lt}
use native.Mathlib.Omega.{arith}
use lib.Dec.{ltb}
use lib.ListN.{length, get_or}
use borrow.Author.Tests.{lt-ltb, le-ltb}
use Rattle.calendar.specs.Tests.{any}
use Rattle.std.specs.Bool.{then_some}
use Rattle.std.specs.Prelude.{Option, Some}
use Rattle.register.specs.Line.{text_length, number_in}
use Rattle.register.specs.Layout.{line_layout, line_length}
use Rattle.register.specs.Scan.{lines_in, FoundAt}
use Rattle.register.proofs.LayoutLaws.{cut_count}
use Rattle.register.proofs.CheckLaws.{number_inside}
use Rattle.register.proofs.FindLaws.{number_before, number_past, number_found}
use Rattle.register.proofs.FindLoop.{first_line_number}
use Rattle.register.proofs.finding.place_of_number.Goals as goal
use Rattle.register.proofs.finding.place_of_number.Goals.{After-number_at-first}

by_place : (f : List ℕ → Bool) (ls : List (List ℕ)) (n place : ℕ) (o : Option ℕ) → o ≡ then_some (ltb place n) place
    → (place < n → FoundAt f ls (Some place)) → (n ≤ place → any f ls ≡ false) → FoundAt f ls o
by_place f ls n place o e found absent =
    elim (dec_lt place n) [
      | yes h ↦ rw e (simp (lt-ltb place n h) (found h))
      | no h ↦ rw e (simp (le-ltb place n (omega arith)) (absent (omega arith)))
    ]

begins : (c : After-number_at-first) → 0 < length (lines_in c.args.lines.now)
    → number_in (get_or (lines_in c.args.lines.now) 0 []) ≡ c.number_at-first.result
begins c h = first_line_number line_layout number_inside c.args.lines.now (length c.args.lines.now / line_length) h ∙ sym c.number_at-first.ensures

pub returns-in_err-place : goal.returns-in_err-place
returns-in_err-place c =
    rw c.from_residual.ensures
    (number_before line_layout number_inside _ c.requires _ _ (begins ((goal.at.returns-in_err-place c).After-number_at-first))
    (omega (arith, c.in_err-place.ensures)))

pub returns : goal.returns
unfolding text_length
returns c =
    let place = c.in_ok-place.ensures in
    let first = begins ((goal.at.returns c).After-number_at-first) in
    let above : c.number_at-first.result + c.in_ok-place.field-0 ≡ c.args.number = omega (arith, place.0, place.1) in
    let n = length c.args.lines.now / line_length in
    let count = cut_count line_layout n c.args.lines.now in
    by_place _ _ n c.in_ok-place.field-0 _ c.then_some.ensures
    (λ h. number_found line_layout number_inside _ c.requires _ _ first _ above (omega arith))
    (λ h. number_past line_layout number_inside _ c.requires _ _ first _ above (omega arith))
