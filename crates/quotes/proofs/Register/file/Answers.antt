-- The used part stays within the register, and a text that is no longer than the refusals has no more lines than they are.
use Rattle.std.proofs.Common.{rules, length, ap, arith}
use Rattle.register.specs.Layout.{lent}
use Rattle.register.specs.Text.{text_filings}
use Rattle.register.proofs.TextLaws.{lines_few}
use Rattle.quotes.proofs.FiledLaws.{run_within}
use Rattle.quotes.proofs.Register.file.Goals as goal

pub invariant_of-self : goal.invariant_of-self
invariant_of-self c =
    let filed = c.file_lines-filed in
    let within = run_within (lent c.args.self.now.bytes c.args.self.now.used) (text_filings 1 c.args.text.now) (search rules) in
    record { within = omega (arith, within, ap (λ a. a.used) filed.ensures.answered, ap length filed.ensures.bytes) }

pub returns-clause-few : goal.returns-clause-few
returns-clause-few c =
    let counted = ap (λ a. a.lines) c.file_lines-filed.ensures.answered in
    omega (arith, counted, lines_few c.args.text.now, c.requires)
