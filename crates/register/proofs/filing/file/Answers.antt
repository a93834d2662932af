-- `file` is the definition `file_step`: by the case's refusal, the register's, and else by what `enter` ensures.
use mathlib.Core.Path.{◌∙◌, ap}
use Rattle.std.specs.Prelude.{Err}
use Rattle.std.proofs.lemmas.Result.{err_from_is_err_and}
use Rattle.refusals.specs.Numbers.{number}
use Rattle.split.proofs.QuoteLaws.{answered_refusal, granted_line}
use Rattle.register.proofs.FileLoop.{scan_known, line_refused, scan_refused}
use Rattle.register.proofs.filing.file.Goals as goal

pub returns-in_err-quote : goal.returns-in_err-quote
returns-in_err-quote c =
    let e = err_from_is_err_and c.from_residual.result c.from_residual.ensures.1 in
    let p = line_refused _ _ e.0 (ap number e.2 ∙ answered_refusal (Err c.in_err-quote.field-0.0) _ c.in_err-quote.ensures) in
    rw e.1 (p.0, p.1)

pub returns-in_err-last : goal.returns-in_err-last
returns-in_err-last c = scan_refused _ _ _ c.from_residual-in_err-last.result c.from_residual-in_err-last.ensures.1 c.in_err-last.ensures (granted_line _ _ c.in_ok-quote.ensures)

pub enter-requires : goal.enter-requires
enter-requires c = (scan_known c.in_ok-last.ensures, granted_line _ _ c.in_ok-quote.ensures, c.in_ok-quote.ensures)
