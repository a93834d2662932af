-- `pension_file` gives what the engine's `file` answered, as C has it, and leaves the bytes that it left.
use mathlib.Core.Path.{◌∙◌, ap}
use Rattle.pension.specs.Interface.{filed_for_c}
use Rattle.pension.proofs.pension_file.Goals as goal

pub returns : goal.returns
returns c = (c.from.ensures ∙ ap filed_for_c c.file.ensures.0, c.file.ensures.1)
