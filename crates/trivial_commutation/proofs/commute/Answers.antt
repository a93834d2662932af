-- `commute` is the definition `trivial_commutation`, refused or by what its calls promise.
use Prim.Native.Nat.{◌≤◌}
use mathlib.Core.Path.{sym, ◌∙◌}
use native.Mathlib.Omega.{arith}
use Rattle.trivial_commutation.specs.TrivialCommutation.{trivial_commutation}
use Rattle.trivial_commutation.proofs.TrivialCommutationLaws.{pensions_listed}
use Rattle.trivial_commutation.proofs.commute.Goals as goal
use Rattle.trivial_commutation.proofs.commute.Goals.{Else-is_refused}

pensions : (c : Else-is_refused) → let s = c.args in (s.member.0 ≤ 50000000) × (s.survivor.0 ≤ 50000000)
pensions c =
    let s = c.args in
    pensions_listed s.scheme s.age _ _ (sym c.is_refused.ensures ∙ c.if-is_refused.false)

pub returns-then-is_refused : goal.returns-then-is_refused
unfolding trivial_commutation
returns-then-is_refused c = rw (← c.is_refused.ensures, c.if-is_refused.true)

pub returns : goal.returns
unfolding trivial_commutation
returns c =
    rw (← c.is_refused.ensures, c.if-is_refused.false, ← c.factors_of-factors.ensures)
    (λ i. record { refusal = 0; lump = record { 0 = c.lump_sum.ensures i } })

pub overflow_cast-for_member : goal.overflow_cast-for_member
overflow_cast-for_member c = omega (arith, pensions ((goal.at.overflow_cast-for_member c).Else-is_refused))

pub overflow_cast-for_survivor : goal.overflow_cast-for_survivor
overflow_cast-for_survivor c = omega (arith, pensions ((goal.at.overflow_cast-for_survivor c).Else-is_refused))

pub lump_sum-requires : goal.lump_sum-requires
lump_sum-requires c = pensions ((goal.at.lump_sum-requires c).Else-is_refused)
