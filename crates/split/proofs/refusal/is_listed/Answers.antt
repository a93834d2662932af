-- `is_listed`: between bounds that are both 0 there is only 0.
use Prim.Native.Nat.{ℕ, zero-le}
use mathlib.Core.Path.{◌≡◌, refl, ◌∙◌, ap}
use mathlib.Core.Bool.{Bool, true, false, cond, ◌&&◌}
use lib.Dec.{leb, eqb}
use borrow.Author.Tests.{le-leb}
use Rattle.calendar.specs.Tests.{within}
use Rattle.calendar.proofs.TestsLaws.{leb_zero}
use Rattle.split.proofs.refusal.is_listed.Goals as goal

chosen : (applies : Bool) (low high x : ℕ)
    → within (cond applies low 0) (cond applies high 0) x ≡ cond applies (within low high x) (eqb x 0)
chosen true low high x = refl
chosen false low high x = ap (λ (b : Bool). b && leb x 0) (le-leb 0 x zero-le) ∙ leb_zero x

pub returns : goal.returns
returns c =
    let args = c.args in
    c.is_within.ensures
    ∙ (λ i. within (c.bound.ensures i) (c.bound-2.ensures i) args.x)
    ∙ chosen args.applies args.low args.high args.x
