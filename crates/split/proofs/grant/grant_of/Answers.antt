-- `grant_of` sums the pensions, and then takes the turns under the limit of their sum.
use Rattle.std.proofs.Common.{◌≡◌, rules}
use Rattle.split.specs.Working.{pension_total}
use Rattle.split.proofs.GrantLoop.{pensions_summed}
use Rattle.split.proofs.grant.grant_of.Goals as goal

pub returns-clause-taken : goal.returns-clause-taken
returns-clause-taken c =
    let summed : c.sum-sum.result ≡ pension_total c.args.rows.now = search rules in
    rw (pensions_summed c.args.rows.now, ← summed) c.take_turns.ensures.taken
