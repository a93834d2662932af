-- `is_unlisted` is the definition `unlisted`: its bounds are those of each kind.
use Prim.Native.Nat.{ℕ}
use mathlib.Core.Path.{◌≡◌, sym}
use mathlib.Core.Bool.{Bool, true, false, cond, not, ◌&&◌, ◌||◌, or-false}
use native.Mathlib.Omega.{arith}
use lib.Dec.{leb, eqb}
use borrow.Author.Tests.{eqb-true}
use Rattle.calendar.specs.Tests.{within}
use Rattle.calendar.proofs.TestsLaws.{leb_zero}
use Rattle.split.specs.declared.case.Pension.{Pension}
use Rattle.split.specs.Refusal.{unlisted, listed_f1, no_increase, listed_increase}
use Rattle.split.proofs.refusal.is_unlisted.Goals as goal

-- within the list of the terms of kind 2, and 0 where the kind is another
abbrev listed : Bool → ℕ → ℕ → ℕ → Bool
listed second low high x = cond second (within low high x) (eqb x 0)

-- each kind by itself
by_kind : (p : Pension) (first second : Bool) → eqb p.kind 1 ≡ first → eqb p.kind 2 ≡ second
    → not (leb p.lift (cond (second || first) 1 0)
    && ((eqb p.terms.f1 0 || (second || first) && within 500 4000 p.terms.f1)
    && (listed second 500 4000 p.terms.f2
    && (listed second 1 1000 p.terms.f3 && listed second 1 10000 p.terms.increase))))
    ≡ unlisted p
unfolding unlisted listed_f1 no_increase listed_increase
by_kind p true true a b = absurd (omega (arith, eqb-true p.kind 1 a, eqb-true p.kind 2 b))
by_kind p true false a b = simp (a, b)
by_kind p false true a b = simp (a, b)
by_kind p false false a b = simp (a, b, leb_zero, or-false)

pub returns : goal.returns
returns c =
    let p = c.args.p in
    rw (c.bound.ensures, c.is_within.ensures, c.is_listed-f2.ensures, c.is_listed-f3.ensures, c.is_listed-increase.ensures)
    (by_kind p c.is_of.result c.is_of-second.result (sym c.is_of.ensures) (sym c.is_of-second.ensures))
