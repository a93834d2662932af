-- A register that shows a ledger: its used part is the ledger's lines, on a ground that shows behind them. Filing in it answers
-- what the ledger answers and leaves a register that shows the ledger after it, so a list of filings does too; and every
-- register that checks sound shows a ledger of its own lines. Assumes nothing.
use Prim.Native.Nat.{ℕ}
use mathlib.Core.List.{List, [], ◌++◌}
use mathlib.Core.Path.{◌≡◌, sym, ◌∙◌, ap, subst}
use native.Mathlib.Omega.{arith}
use lib.Dec.{eqb}
use lib.ListN.{length, drop}
use borrow.Author.Tests.{eqb-true, not-false}
use Rattle.register.specs.Answers.{Checked, Filed}
use Rattle.register.specs.Line.{line_for}
use Rattle.register.specs.Layout.{Register, line_layout, bytes_of, used_by, used_lines}
use Rattle.register.specs.Check.{following, next_number, check_by, check_lines, check_of}
use Rattle.register.specs.Steps.{Step, runs}
use Rattle.register.specs.File.{Filing, number_given, file_refusal, filed_answer, text_filed, grown, file_step, file_run}
use Rattle.register.specs.Ledger.{Ledger, ledger_refusal, ledger_after, ledger_step}
use Rattle.register.proofs.LayoutLaws.{bytes_more, UsedPart, used_part, used_cut}
use Rattle.register.proofs.CheckLaws.{whole_used, check_sound}
use Rattle.register.proofs.FileLaws.{refusal_none, given_next, text_granted, text_refused, grown_none, laid_on, grown_laid, laid_length}
use Rattle.register.proofs.LedgerLaws.{entered_by, entered_only, ledger_granted, Held, held_after}
use Rattle.register.proofs.StepsLaws.{runs_square}

abbrev pub shown : List ℕ → Ledger → Register
shown g b = laid_on g (bytes_of b.lines)

module _ (g : List ℕ) (b : Ledger) (held : Held (length g) b) where
  -- it is read as the ledger's lines, and checks as they do
  pub shown_lines : used_lines (shown g b) ≡ b.lines
  shown_lines = used_cut line_layout b.lines (drop (used_by b.lines) g) held.whole

  pub shown_check : check_of (shown g b) ≡ check_lines 0 0 b.lines
  unfolding check_by
  shown_check =
      simp (
        laid_length g (bytes_of b.lines) held.room,
        whole_used line_layout (length g) b.lines held.whole held.room,
        shown_lines,
      )

  pub shown_refusal : (f : Filing) → file_refusal (shown g b) f ≡ ledger_refusal (length g) b f
  unfolding file_refusal ledger_refusal
  shown_refusal f =
      simp (
        shown_check,
        laid_length g (bytes_of b.lines) held.room,
        whole_used line_layout (length g) b.lines held.whole held.room,
        shown_lines,
      )

  -- filing leaves it showing the ledger after the filing
  pub shown_after : (f : Filing) → grown (shown g b) (text_filed (shown g b) f) ≡ shown g (ledger_after (length g) b f)
  shown_after f =
      entered_by (λ after. grown (shown g b) (text_filed (shown g b) f) ≡ shown g after) (length g) b f
      (λ refused.
      ap (grown (shown g b)) (text_refused (shown g b) f (λ e. refused (sym (shown_refusal f) ∙ e))) ∙ grown_none (shown g b))
      (λ none.
      ap (grown (shown g b)) (text_granted (shown g b) f (shown_refusal f ∙ none))
      ∙ grown_laid g (bytes_of b.lines) (line_for (number_given (used_lines (shown g b)) f) f.line)
      ∙ ap (laid_on g)
      (ap (λ (ls : List (List ℕ)). bytes_of b.lines ++ line_for (number_given ls f) f.line) shown_lines
      ∙ sym (bytes_more b.lines (line_for (number_given b.lines f) f.line))))

  pub shown_step : (f : Filing) → file_step (shown g b) f
      ≡ record { answer = (ledger_step (length g) b f).answer; state = shown g (ledger_step (length g) b f).state }
  unfolding file_step ledger_step
  shown_step f =
      λ i. record {
        answer =
            (ap (λ (x : ℕ). filed_answer x (grown (shown g b) (text_filed (shown g b) f)).used) (shown_refusal f)
            ∙ ap (λ (r : Register). filed_answer (ledger_refusal (length g) b f) r.used) (shown_after f)) i;
        state = shown_after f i;
      }

-- the same of a list of filings
pub shown_run : (g : List ℕ) (b : Ledger) (fs : List Filing) → Held (length g) b → file_run (shown g b) fs
    ≡ record {
      answer = (runs (ledger_step (length g)) b fs).answer;
      state = shown g (runs (ledger_step (length g)) b fs).state;
    }
unfolding ledger_step
shown_run g b fs held =
    runs_square (ledger_step (length g)) file_step (shown g) (Held (length g)) (held_after (length g))
    (λ s e h. shown_step g s h e) b fs held

-- a register that checks sound shows the ledger of its own lines
abbrev pub own_ledger : Register → Ledger
own_ledger r = record { lines = used_lines r; granted = [] }

module _ (r : Register) (sound : (check_of r).refusal ≡ 0) where
  own_part : UsedPart line_layout r.bytes r.used
  own_part = let c = check_sound line_layout r sound in used_part line_layout r.bytes r.used c.0 c.1

  pub own_shown : shown r.bytes (own_ledger r) ≡ r
  own_shown =
      λ i. record {
        bytes =
            (ap (λ (k : ℕ). bytes_of (used_lines r) ++ drop k r.bytes) own_part.size ∙ own_part.bytes) i;
        used = own_part.size i;
      }

  pub own_held : Held (length r.bytes) (own_ledger r)
  own_held =
      let c = check_sound line_layout r sound in
      record { whole = own_part.whole; room = omega (arith, own_part.size); sound = c.2 }

-- only a register that checks sound takes a case
pub file_sound : (r : Register) (f : Filing) → file_refusal r f ≡ 0 → (check_of r).refusal ≡ 0
unfolding file_refusal
file_sound r f none =
    eqb-true (check_of r).refusal 0
    (not-false (eqb (check_of r).refusal 0) (refusal_none f _ (length r.bytes) r.used (used_lines r) none).sound)

-- and is sound with its line, behind which the next number follows the one given
pub record StaysSound (number : ℕ) (after : Register) : Type 0 where
  pub checked : (check_of after).refusal ≡ 0
  pub next : next_number (used_lines after) ≡ following number

shown_sound : (g : List ℕ) (b : Ledger) (f : Filing) → Held (length g) b → file_refusal (shown g b) f ≡ 0
    → StaysSound (number_given (used_lines (shown g b)) f) (file_step (shown g b) f).state
unfolding ledger_step
shown_sound g b f held none =
    let given = sym (shown_refusal g b held f) ∙ none in
    let held' = held_after (length g) b f held in
    let after : (file_step (shown g b) f).state ≡ shown g (ledger_after (length g) b f) =
    ap (λ (x : Step Filed Register). x.state) (shown_step g b held f)
    in
    rw (shown_lines g b held, after)
    (record {
      checked = ap (λ (x : Checked). x.refusal) (shown_check g (ledger_after (length g) b f) held') ∙ held'.sound;
      next =
          ap next_number (shown_lines g (ledger_after (length g) b f) held')
          ∙ entered_only (λ (x : Ledger). next_number x.lines ≡ following (number_given b.lines f)) (length g) b f given
          (given_next b.lines f (ledger_granted (length g) b f given).free);
    })

pub step_sound : (r : Register) (f : Filing) → file_refusal r f ≡ 0 → StaysSound (number_given (used_lines r) f) (file_step r f).state
step_sound r f none =
    let sound = file_sound r f none in
    subst (λ (x : Register). StaysSound (number_given (used_lines x) f) (file_step x f).state) (own_shown r sound)
    (shown_sound r.bytes (own_ledger r) f (own_held r sound) (rw (own_shown r sound) none))
