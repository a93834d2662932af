-- `worked_terms` is the definition `worked_terms`, branch by branch.
use Rattle.split.specs.Refusal.{age_of}
use Rattle.split.proofs.BenefitsLaws.{terms_looked_up, terms_given}
use Rattle.split.proofs.basis.Basis.worked_terms.Goals as goal

pub returns-then-t-eq0 : goal.returns-then-t-eq0
returns-then-t-eq0 c =
    let basis = c.args.self in
    terms_looked_up (age_of basis.head) basis.found c.args.t c.if-t-eq0.true basis.looked_up

pub returns-else-t-eq0 : goal.returns-else-t-eq0
returns-else-t-eq0 c = terms_given (age_of c.args.self.head) c.args.t c.if-t-eq0.false
