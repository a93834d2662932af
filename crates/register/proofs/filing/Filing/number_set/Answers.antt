-- `number_set` is the definition's choice, branch by branch; the year is the first half of its date's number.
use borrow.Author.Tests.{eq-eqb, ne_eqb}
use Rattle.split.specs.Frame.{date_at}
use Rattle.split.specs.Case.{head_at, head_of}
use Rattle.register.specs.File.{number_set}
use Rattle.register.proofs.FileLaws.{year_read}
use Rattle.register.proofs.filing.Filing.number_set.Goals as goal

pub returns-then-self-eq0 : goal.returns-then-self-eq0
unfolding number_set head_of head_at date_at
returns-then-self-eq0 c = simp (eq-eqb _ 0 c.if-self-eq0.true, c.number_at-year.ensures, year_read)

pub returns : goal.returns
unfolding number_set
returns c = simp (ne_eqb _ 0 c.if-self-eq0.false)
