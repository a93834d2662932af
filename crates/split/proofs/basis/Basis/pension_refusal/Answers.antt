-- `pension_refusal`: where the tests that come first pass, no condition holds; else it is the callee's.
use mathlib.Core.Path.{sym, ◌∙◌}
use Rattle.split.proofs.ConditionsLaws.{pension_lowest}
use Rattle.split.proofs.basis.Basis.pension_refusal.Goals as goal

pub returns-then-has_plain_terms : goal.returns-then-has_plain_terms
returns-then-has_plain_terms c =
    let dates = c.is_plain_service.ensures c.if-is_plain_service.true in
    let later = c.has_plain_terms.ensures c.if-has_plain_terms.true in
    sym (pension_lowest c.args.self.head c.args.p c.args.self.age c.args.self.aged ∙ simp (dates.0, dates.1, later.0, later.1))

pub returns : goal.returns
returns c = c.lowest_refusal.ensures
