-- `is_bad_used` is the definition `bad_used`, as it stands.
use mathlib.Core.Path.{refl}
use Rattle.register.specs.Line.{text_length}
use Rattle.register.specs.Check.{bad_used_by}
use Rattle.register.proofs.checking.is_bad_used.Goals as goal

pub returns : goal.returns
unfolding bad_used_by text_length
returns c = refl
