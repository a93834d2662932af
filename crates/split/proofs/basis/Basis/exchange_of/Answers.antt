-- `exchange_of`: pension and factor are those of the definitions, in range since the pension is accepted.
use mathlib.Core.Path.{◌≡◌}
use native.Mathlib.Omega.{arith}
use Rattle.split.specs.Working.{multiple_factor}
use Rattle.split.proofs.Accepted.{pension_accepted, factor_range, worked_at_most}
use Rattle.split.proofs.WorkingLaws.{factor_worked, worked_range}
use Rattle.split.proofs.basis.Basis.exchange_of.Goals as goal
use Rattle.split.proofs.basis.Basis.exchange_of.Goals.{After-effective_factor-factor}

-- the factor that the calls made
factor : (c : After-effective_factor-factor) → c.effective_factor-factor.result ≡ multiple_factor c.args.self.head c.args.p
factor c = factor_worked c.args.self.head c.args.p _ _ c.worked_terms.ensures c.effective_factor-factor.ensures

pub invariant_of-result-clause-small : goal.invariant_of-result-clause-small
invariant_of-result-clause-small c =
    rw c.worked_pension-pension.ensures (omega (arith, worked_at_most c.args.self.head c.args.p, c.requires.stated))

pub invariant_of-result-clause-ranged : goal.invariant_of-result-clause-ranged
invariant_of-result-clause-ranged c =
    let h = c.args.self.head in
    let p = c.args.p in
    rw (factor ((goal.at.invariant_of-result-clause-ranged c).After-effective_factor-factor))
    (worked_range h p (factor_range h p (pension_accepted h p c.requires.none)))

pub returns : goal.returns
returns c =
    (c.worked_pension-pension.ensures, factor ((goal.at.returns c).After-effective_factor-factor))
