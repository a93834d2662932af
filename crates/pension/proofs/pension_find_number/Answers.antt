-- `pension_find_number` gives where the engine's `locate_number` found the line, which is where its bytes are.
use Rattle.pension.proofs.InterfaceLaws.{found_bytes}
use Rattle.pension.proofs.pension_find_number.Goals as goal

pub returns : goal.returns
returns c = found_bytes _ _ _ _ c.locate_number.ensures c.from.ensures
