-- `file_all` keeps the list claim: it is what `file_lines` ensures, from used length 0.
use Rattle.register.proofs.FileLoop.{filed_all}
use Rattle.register.proofs.filing.file_all.Goals as goal

pub returns : goal.returns
returns c = filed_all _ _ _ _ _ _ _ c.file_lines-filed.ensures
