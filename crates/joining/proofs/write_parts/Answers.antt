-- `write_parts` is the definition `write_step` of the two parts one behind the other.
use mathlib.Core.Path.{refl}
use native.Mathlib.Omega.{arith}
use borrow.Author.Rules.{rules}
use Rattle.joining.proofs.PartsLaws.{write_short, write_fits}
use Rattle.joining.proofs.write_parts.Goals as goal

pub returns-then-target-seam : goal.returns-then-target-seam
returns-then-target-seam c =
    let s = c.args in
    write_short s.first.now s.second.now s.target.now _ (omega arith) refl

pub returns-then-target-seam-2 : goal.returns-then-target-seam-2
returns-then-target-seam-2 c =
    let s = c.args in
    write_short s.first.now s.second.now s.target.now _ (omega arith) refl

pub returns : goal.returns
returns c =
    let s = c.args in
    write_fits s.first.now s.second.now s.target.now (search rules) _ _
    c.copy.ensures c.copy-2.ensures
