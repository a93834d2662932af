-- `pension_find_member` gives what the engine's `locate_member` found, which is where the line's bytes are.
use Rattle.pension.proofs.InterfaceLaws.{member_bytes}
use Rattle.pension.proofs.pension_find_member.Goals as goal

pub returns : goal.returns
returns c = member_bytes _ _ _ _ c.locate_member.ensures c.from.ensures
