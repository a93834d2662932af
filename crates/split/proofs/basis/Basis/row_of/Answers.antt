-- `row_of` is the definition `row_of`, part by part, by what its calls promise.
use Rattle.split.proofs.Accepted.{pension_accepted, factor_range}
use Rattle.split.proofs.WorkingLaws.{benefit_worked, row_made}
use Rattle.split.proofs.basis.Basis.row_of.Goals as goal

pub returns : goal.returns
returns c =
    let h = c.args.self.head in
    let p = c.args.p in
    let made = c.exchange_of-exchange.ensures in
    row_made h p _ _ _ (factor_range h p (pension_accepted h p c.requires.none))
    (benefit_worked h p _ _ _ _ made.0 made.1 c.is_limited.ensures c.cap-cap.ensures) c.price.ensures c.increase_of.ensures
