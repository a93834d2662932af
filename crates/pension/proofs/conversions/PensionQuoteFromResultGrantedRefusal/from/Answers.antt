-- The answer of a quote is the definition `quote_for_c`, by whether it is refused.
use Rattle.std.proofs.Common.{arith}
use Rattle.std.proofs.lemmas.Grind.{common_steps}
use Rattle.split.specs.Quote.{refused_quote}
use Rattle.pension.specs.Interface.{quote_for_c}
use Rattle.pension.proofs.conversions.PensionQuoteFromResultGrantedRefusal.from.Goals as goal

pub returns-in-Ok : goal.returns-in-Ok
unfolding quote_for_c
returns-in-Ok c = grind (arith, common_steps)

pub returns-in-Err : goal.returns-in-Err
unfolding quote_for_c refused_quote
returns-in-Err c = simp (c.in-Err.is, c.number.ensures)
