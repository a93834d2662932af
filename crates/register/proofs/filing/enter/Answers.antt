-- `enter` is the definition `file_step` for an accepted case: each branch is the refusal of the definition that applies first.
use Prim.Native.Nat.{◌≤◌}
use mathlib.Core.Path.{refl, sym}
use Rattle.std.specs.Prelude.{ℕ, Option, Ok}
use native.Mathlib.Omega.{arith}
use lib.ListN.{length, length-take, length-drop}
use Rattle.register.specs.Line.{text_length}
use Rattle.register.specs.Scan.{scanned_as, Known}
use Rattle.register.specs.Layout.{Register, line_layout}
use Rattle.register.proofs.CheckLaws.{check_sound}
use Rattle.register.proofs.FileLoop.{quote_whole, space_refused, last_refused, line_filed}
use Rattle.register.proofs.filing.enter.Goals as goal

-- the used length of a sound register lies in it
inside : (r : Register) (last : Option ℕ) → Known r (scanned_as (Ok last)) → r.used ≤ length r.bytes
inside r last k = (check_sound line_layout r (sym k.checked)).0

pub overflow_sub-register : goal.overflow_sub-register
overflow_sub-register c = inside _ _ c.requires.0

pub returns-then-register-used-lt-LINE_LENGTH : goal.returns-then-register-used-lt-LINE_LENGTH
unfolding text_length
returns-then-register-used-lt-LINE_LENGTH c =
    let pre = c.requires in
    let p = space_refused _ _ _ pre.0 pre.1 refl (omega arith) in
    record { answered = p.0; bytes = p.1; numbered = tt }

pub returns-then-number-ge4294967296 : goal.returns-then-number-ge4294967296
unfolding text_length
returns-then-number-ge4294967296 c =
    let pre = c.requires in
    let p = last_refused _ _ _ pre.0 pre.1 refl (omega arith) _ c.number_given-number.ensures (omega arith) in
    record { answered = p.0; bytes = p.1; numbered = tt }

pub write_line-requires : goal.write_line-requires
unfolding text_length
write_line-requires c =
    (simp (length-take, length-drop) (omega (arith, inside _ _ c.requires.0)), quote_whole _ _ c.requires.2)

pub returns : goal.returns
unfolding text_length
returns c =
    let pre = c.requires in
    let p =
    line_filed _ _ _ pre.0 pre.1 refl (omega arith) _ _ _ c.number_given-number.ensures (omega arith)
    pre.2 c.write_line.ensures
    in record { answered = p.0; bytes = p.1; numbered = c.number_given-number.ensures }
