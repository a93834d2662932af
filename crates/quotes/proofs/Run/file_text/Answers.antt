-- A text without characters has no line, and so leaves the register as it is.
use Rattle.std.proofs.Common.{refl}
use Rattle.register.specs.Steps.{runs}
use Rattle.register.specs.Text.{text_lines, lines_with}
use Rattle.quotes.proofs.Run.file_text.Goals as goal

pub returns-then-end-eq0-clause-filed : goal.returns-then-end-eq0-clause-filed
unfolding runs text_lines lines_with
returns-then-end-eq0-clause-filed g c = rw c.if-end-eq0.true refl
