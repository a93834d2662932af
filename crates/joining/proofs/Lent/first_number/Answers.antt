-- `first_number` is the definition `first_number` of the used lines: the first of them, where there is one, begins the register.
use mathlib.Core.Path.{sym, ◌∙◌}
use borrow.Author.Rules.{rules}
use Rattle.register.specs.Line.{text_length}
use Rattle.joining.proofs.Numbers.{no_first, first_read}
use Rattle.joining.proofs.Lent.first_number.Goals as goal

pub returns-then-self-lt-LINE_LENGTH : goal.returns-then-self-lt-LINE_LENGTH
unfolding text_length
returns-then-self-lt-LINE_LENGTH c = sym (no_first _ _ (search rules))

pub returns : goal.returns
unfolding text_length
returns c = c.number_at.ensures ∙ sym (first_read _ _ (search rules))
