-- What is claimed of the lines compared, for any layout, test and register: by the check, and by whether some line passes; where
-- one does, the lines older and newer than the last with itself are all lines. Assumes nothing.
use Prim.Native.Nat.{ℕ, ◌+◌}
use mathlib.Core.Bool.{Bool, or-true, false≢true}
use mathlib.Core.List.{List}
use mathlib.Core.Path.{◌≡◌, sym, ◌∙◌}
use native.Mathlib.Omega.{arith}
use lib.ListN.{length, length-append}
use Rattle.calendar.proofs.TestsLaws.{any_snoc}
use Rattle.register.specs.Layout.{Register, Layout, used_lines_by}
use Rattle.register.specs.Find.{last_place, with_found, CountClaim}
use Rattle.register.proofs.FindLaws.{last_newer, place_snoc, by_finding, refused_unsound, refused_absent, refused_none, locate_absent, compared_unsound, compared_absent, compared_found}

pub count_claim : (y : Layout) (f : List ℕ → Bool) (r : Register) → CountClaim y f r
unfolding with_found
count_claim y f r =
    by_finding y f r
    (λ bad.
    let refusal = refused_unsound y f r bad in
    let none = compared_unsound y f r bad in
    record {
      most = omega arith;
      unsound = λ h. none;
      absent = λ h. absurd (omega arith);
      found = λ h. absurd (omega arith);
      newest = λ sound older l ends here. absurd (bad sound);
    })
    (λ sound none.
    let refusal = refused_absent y f r sound none in
    let all = compared_absent y f r sound none in
    record {
      most = omega arith;
      unsound = λ h. absurd (omega arith);
      absent = λ h. (all, locate_absent y f r sound none);
      found = λ h. absurd (omega arith);
      newest = λ _ older l ends here. absurd (false≢true (sym none ∙ simp (ends, any_snoc f older l, here, or-true)));
    })
    (λ sound some.
    let refusal = refused_none y f r sound some in
    let count = compared_found y f r sound some in
    let all = last_newer f (used_lines_by y r) some in
    record {
      most = omega arith;
      unsound = λ h. absurd (omega arith);
      absent = λ h. absurd (omega arith);
      found = λ h. omega arith;
      newest = λ _ older l ends here.
          let place : last_place f (used_lines_by y r) ≡ length older = simp (ends, place_snoc, here) in
          let lines : length (used_lines_by y r) ≡ length older + 1 = simp (ends, length-append) in
          omega arith;
    })
