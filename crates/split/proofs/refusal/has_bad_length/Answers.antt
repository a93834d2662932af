-- `has_bad_length` is the definition `bad_length`, test by test.
use Prim.Native.Nat.{◌+◌}
use mathlib.Core.Bool.{Bool, not, ◌&&◌, ◌||◌}
use mathlib.Core.Path.{ap}
use lib.Dec.{eqb}
use Rattle.split.specs.Case.{case_length, allowance_used_length}
use Rattle.split.specs.Refusal.{bad_length}
use Rattle.split.proofs.refusal.has_bad_length.Goals as goal

pub returns : goal.returns
unfolding bad_length
returns c =
    let a = c.args in
    ap
    (λ (counted : Bool).
    not (counted && (eqb a.characters (case_length a.n) || eqb a.characters (case_length a.n + allowance_used_length))))
    c.is_within-counted.ensures
