-- `pension_quote` gives the engine's quote, field by field.
use Rattle.std.proofs.Common.{◌∙◌, ap}
use Rattle.pension.specs.Interface.{quote_for_c}
use Rattle.pension.proofs.pension_quote.Goals as goal

pub returns : goal.returns
returns c = c.from.ensures ∙ ap quote_for_c c.quote.ensures
