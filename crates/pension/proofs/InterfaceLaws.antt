-- The C interface: a used length with the refusal in its place, and a line found as the bytes that the engine's own call hands back.
-- Assumes nothing.
use Prim.Native.Nat.{ℕ}
use mathlib.Core.Bool.{Bool}
use mathlib.Core.List.{List}
use mathlib.Core.Path.{◌≡◌, ◌∙◌, ap}
use lib.ListN.{take, drop}
use Rattle.std.specs.Prelude.{Result, Ok, Err}
use Rattle.std.specs.Result.{result_unwrap_or}
use Rattle.refusals.specs.declared.Refusal.{Refusal}
use Rattle.refusals.specs.Numbers.{refusal_number}
use Rattle.register.specs.Answers.{Located, LocatedMember, filed_as}
use Rattle.register.specs.Layout.{Register, line_layout}
use Rattle.register.specs.Find.{has_member, find_line, locate, locate_member}
use Rattle.register.proofs.FindLaws.{located_within, member_within}
use Rattle.joining.specs.Answers.{written_as}
use Rattle.pension.specs.declared.answers.PensionFiled.{PensionFiled}
use Rattle.pension.specs.declared.answers.PensionWritten.{PensionWritten}
use Rattle.pension.specs.declared.answers.PensionFound.{PensionFound}
use Rattle.pension.specs.declared.answers.PensionFoundMember.{PensionFoundMember}
use Rattle.pension.specs.Interface.{filed_for_c, found_for_c, found_member_for_c, written_for_c}

-- a used length and the refusal in its place, as C has them side by side
pub filed_given : (filed : Result ℕ Refusal) (refusal used : ℕ) → refusal ≡ refusal_number filed → used ≡ result_unwrap_or filed 0
    → ◌≡◌ {A = PensionFiled} (record { refusal = refusal; used = used }) (filed_for_c (filed_as filed))
unfolding filed_for_c
filed_given (Ok n) refusal used e f = λ i. record { refusal = e i; used = f i }
filed_given (Err r) refusal used e f = λ i. record { refusal = e i; used = f i }

pub written_given : (written : Result ℕ Refusal) (refusal used : ℕ) → refusal ≡ refusal_number written → used ≡ result_unwrap_or written 0
    → ◌≡◌ {A = PensionWritten} (record { refusal = refusal; used = used }) (written_for_c (written_as written))
unfolding written_for_c
written_given (Ok n) refusal used e f = λ i. record { refusal = e i; used = f i }
written_given (Err r) refusal used e f = λ i. record { refusal = e i; used = f i }

-- where a line is found is where its bytes are
pub found_bytes : (f : List ℕ → Bool) (r : Register) (at : Located) (found : PensionFound) → at ≡ locate f r → found ≡ found_for_c at
    → (found ≡ found_for_c (locate f r)) × (take found.length (drop found.offset r.bytes) ≡ find_line f r)
unfolding found_for_c
found_bytes f r at found located made = (made ∙ ap found_for_c located, rw made (located_within line_layout f r at located).line)

pub member_bytes : (member : ℕ) (r : Register) (at : LocatedMember) (found : PensionFoundMember) → at ≡ locate_member member r
    → found ≡ found_member_for_c at
    → (found ≡ found_member_for_c (locate_member member r)) × (take found.length (drop found.offset r.bytes) ≡ find_line (has_member member) r)
unfolding found_member_for_c
member_bytes member r at found located made =
    (made ∙ ap found_member_for_c located, rw made (member_within line_layout member r at located).line)
