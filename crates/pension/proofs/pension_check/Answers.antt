-- `pension_check` gives what the engine's `check` found, as C has it.
use mathlib.Core.Path.{◌∙◌, ap}
use Rattle.pension.specs.Interface.{checked_for_c}
use Rattle.pension.proofs.pension_check.Goals as goal

pub returns : goal.returns
returns c = c.from.ensures ∙ ap checked_for_c c.check.ensures
