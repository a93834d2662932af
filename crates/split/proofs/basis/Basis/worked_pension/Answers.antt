-- `worked_pension` is the definition `worked_pension`: the thousandths that the kind chooses are paid, at most a thousand.
use Prim.Native.Nat.{ℕ, ◌≤◌}
use mathlib.Core.Bool.{Bool, true, false, cond}
use mathlib.Core.Path.{◌∙◌, ap}
use native.Mathlib.Omega.{arith}
use lib.Dec.{eqb}
use Rattle.split.proofs.WorkingLaws.{paid_at_most, worked_paid}
use Rattle.split.proofs.basis.Basis.worked_pension.Goals as goal

-- either way at most a thousand
at_most : (third : Bool) (paid : ℕ) → paid ≤ 1000 → cond third paid 1000 ≤ 1000
at_most true paid h = h
at_most false paid h = omega arith

pub paid_part-requires : goal.paid_part-requires
paid_part-requires c =
    let basis = c.args.self in
    rw c.thousandths_of.ensures (at_most (eqb c.args.p.kind 3) basis.paid (rw basis.payable (paid_at_most basis.head)))

pub returns : goal.returns
returns c =
    let basis = c.args.self in
    worked_paid basis.head _ _ _
    (c.thousandths_of.ensures ∙ ap (λ (paid : ℕ). cond (eqb c.args.p.kind 3) paid 1000) basis.payable)
    c.paid_part.ensures
