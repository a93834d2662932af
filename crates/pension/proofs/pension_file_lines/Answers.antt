-- `pension_file_lines` gives what the engine's `file_lines` answered, field by field, and leaves the bytes that it left.
use Rattle.pension.proofs.pension_file_lines.Goals as goal

pub returns : goal.returns
returns c = rw (c.from.ensures.0, c.from.ensures.1) c.file_lines-filed.ensures
