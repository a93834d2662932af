-- A bound of what filing a text leaves: the used part is within the register. By induction on the filings, of which a granted one has
-- its room.
use Rattle.std.proofs.Common.{◌≡◌, ℕ, ◌+◌, ◌≤◌, List, length, ap, ◌∙◌, inl, inr, arith, length-append, length-drop, length-take}
use Rattle.std.proofs.lemmas.Bool.{cases_lt}
use Rattle.register.specs.Layout.{Register, line_length}
use Rattle.register.specs.File.{Filing, file_refusal, text_filed, grown, file_step, file_run}
use Rattle.register.proofs.LineLaws.{line_for-length}
use Rattle.register.proofs.StepsLaws.{runs_keep}
use Rattle.register.proofs.FileLaws.{refusal_none, text_granted, text_refused}

-- a register whose used part is within it
abbrev Within : Register → Type 0
Within r = r.used ≤ length r.bytes

grown_within : (r : Register) (x : List ℕ) → r.used + length x ≤ length r.bytes → Within (grown r x)
grown_within r x room = simp (length-append, length-drop, length-take) (omega arith)

-- a granted filing writes one line, for which there is room, and a refused one nothing
room_filed : (r : Register) (f : Filing) → Within r → r.used + length (text_filed r f) ≤ length r.bytes
unfolding file_refusal
room_filed r f within =
    elim (cases_lt 0 (file_refusal r f)) [
      | inl refused ↦ omega (arith, ap length (text_refused r f (λ none. omega arith)))
      | inr granted ↦
          let none : file_refusal r f ≡ 0 = omega arith in
          let long : length (text_filed r f) ≡ line_length = ap length (text_granted r f none) ∙ line_for-length _ f.line in
          omega (arith, (refusal_none f _ _ _ _ none).space)
    ]

step_within : (r : Register) (f : Filing) → Within r → Within (file_step r f).state
unfolding file_step
step_within r f within = grown_within r (text_filed r f) (room_filed r f within)

pub run_within : (r : Register) (fs : List Filing) → r.used ≤ length r.bytes → (file_run r fs).state.used ≤ length (file_run r fs).state.bytes
run_within r fs within = runs_keep file_step Within step_within r fs within
