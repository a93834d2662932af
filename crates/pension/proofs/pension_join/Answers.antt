-- `pension_join` gives what the engine's `join` answered, as C has it, and leaves the bytes that it left.
use mathlib.Core.Path.{◌∙◌, ap}
use Rattle.pension.specs.Interface.{written_for_c}
use Rattle.pension.proofs.pension_join.Goals as goal

pub returns : goal.returns
returns c =
    let joined = c.join-written.ensures in
    (c.from.ensures ∙ ap written_for_c joined.0, joined.1)
