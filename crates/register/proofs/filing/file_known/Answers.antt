-- `file_known` is the definition `file_step`: by the case's refusal, the register's, and else by what `enter` ensures.
use mathlib.Core.Path.{◌∙◌, ap}
use Rattle.std.specs.Prelude.{Err}
use Rattle.std.proofs.lemmas.Result.{err_from_is_err_and}
use Rattle.refusals.specs.Numbers.{number}
use Rattle.split.proofs.QuoteLaws.{answered_refusal, granted_line}
use Rattle.register.proofs.FileLoop.{line_refused, register_refused}
use Rattle.register.proofs.filing.file_known.Goals as goal

pub returns-in_err-quote : goal.returns-in_err-quote
returns-in_err-quote c =
    let e = err_from_is_err_and c.from_residual.result c.from_residual.ensures.1 in
    let p = line_refused _ _ e.0 (ap number e.2 ∙ answered_refusal (Err c.in_err-quote.field-0.0) _ c.in_err-quote.ensures) in
    rw e.1 (record { answered = p.0; bytes = p.1; numbered = tt })

pub returns-in_err-last : goal.returns-in_err-last
returns-in_err-last c =
    let e = err_from_is_err_and c.from_residual-in_err-last.result c.from_residual-in_err-last.ensures.1 in
    let p = register_refused _ _ c.in_err-last.field-0.0 (rw c.in_err-last.was at c.requires) (granted_line _ _ c.in_ok-quote.ensures) in
    rw (e.1, e.2) (record { answered = p.0; bytes = p.1; numbered = tt })

pub enter-requires : goal.enter-requires
enter-requires c = (rw c.in_ok-last.was at c.requires, granted_line _ _ c.in_ok-quote.ensures, c.in_ok-quote.ensures)
