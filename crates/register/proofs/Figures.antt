-- The rows hold, as one list: antt computes every row. The refusals that register and ledger share stand in their order for any
-- case. Assumes nothing.
use Prim.Native.Nat.{ℕ}
use mathlib.Core.Bool.{Bool, true, false}
use mathlib.Core.List.{List, [], ◌∷◌}
use mathlib.Core.Path.{◌≡◌, refl}
use borrow.Author.Tests.{ne_eqb}
use Rattle.calendar.specs.Figure.{hold}
use Rattle.split.specs.Frame.{hex_value, digit_at, number_at, date_at, hex_character, hex_text}
use Rattle.split.specs.Case.{head_of, head_at}
use Rattle.split.specs.Refusal.{refusal_of}
use Rattle.register.specs.Line.{text_length, number_in}
use Rattle.register.specs.Check.{following, number_after}
use Rattle.register.specs.File.{Filing, number_set, number_given, refusal_given, filed_answer}
use Rattle.register.specs.Figures.{numbered, figures}

pub shared_figures_hold : hold figures ≡ true
unfolding hex_value digit_at number_at hex_character hex_text text_length number_in following number_after head_of head_at date_at number_set number_given filed_answer figures
shared_figures_hold = refl

-- the refusals of any case by the state: its own first, else 11, 12, 13 in their order
pub shared_refusals_hold : (f : Filing) → refusal_of f.line ≡ 0
    → (refusal_given f true 0 0 [] ≡ 11)
    × (refusal_given f false 241 121 (numbered 4294967295 ∷ []) ≡ 12)
    × (refusal_given f false 242 121 (numbered 4294967295 ∷ []) ≡ 13)
    × (refusal_given f false 242 121 (numbered 4294967294 ∷ []) ≡ 0)
unfolding hex_value digit_at number_at hex_character hex_text text_length number_in following number_after number_given refusal_given
shared_refusals_hold f accepted = simp accepted (refl, refl, refl, refl)

pub case_first : (f : Filing) (unsound : Bool) (buffer used : ℕ) (ls : List (List ℕ)) → (refusal_of f.line ≡ 0 → ⊥)
    → refusal_given f unsound buffer used ls ≡ refusal_of f.line
unfolding refusal_given
case_first f unsound buffer used ls refused = simp (ne_eqb (refusal_of f.line) 0 refused)
