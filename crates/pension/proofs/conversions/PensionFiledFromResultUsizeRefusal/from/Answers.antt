-- A filing is the definition `filed_for_c`, by whether it is refused.
use Rattle.pension.proofs.InterfaceLaws.{filed_given}
use Rattle.pension.proofs.conversions.PensionFiledFromResultUsizeRefusal.from.Goals as goal

pub returns : goal.returns
returns c = filed_given c.args.filed _ _ c.number_of.ensures c.unwrap_or.ensures
