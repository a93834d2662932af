-- A register written is the definition `written_for_c`, by whether it is refused.
use Rattle.pension.proofs.InterfaceLaws.{written_given}
use Rattle.pension.proofs.conversions.PensionWrittenFromResultUsizeRefusal.from.Goals as goal

pub returns : goal.returns
returns c = written_given c.args.written _ _ c.number_of.ensures c.unwrap_or.ensures
