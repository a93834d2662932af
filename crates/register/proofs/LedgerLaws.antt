-- The ledger: what may happen to a filing, and what every filing keeps: whole lines that the buffer holds, that check sound, and
-- that are, each with its number, the granted filings' lines. Assumes nothing.
use Prim.Native.Nat.{ℕ, ◌+◌, ◌≤◌, ◌<◌}
use mathlib.Core.Bool.{not, ◌||◌}
use mathlib.Core.List.{List, [], ◌∷◌, ◌++◌}
use mathlib.Core.Path.{◌≡◌, refl, sym, ◌∙◌, ap}
use native.Mathlib.Decide.{dec_lt}
use native.Mathlib.Nat.{add-zero}
use native.Mathlib.Omega.{arith}
use lib.Dec.{eqb}
use lib.ListN.{length, get_or, length-append, get_or-append}
use lib.Seq.{get_or_at}
use borrow.Author.Tests.{eq-eqb, ne_eqb}
use Rattle.calendar.proofs.TestsLaws.{by_zero}
use Rattle.split.specs.Refusal.{refusal_of}
use Rattle.split.proofs.QuoteLaws.{quote_best}
use Rattle.split.proofs.ClaimsLaws.{remaining_claim, allowance_claim, in_turn_claim}
use Rattle.register.specs.Line.{line_for}
use Rattle.register.specs.Layout.{line_layout, bytes_of, used_by}
use Rattle.register.specs.Check.{following, next_number, check_lines_by, bad_used, check_lines}
use Rattle.register.specs.File.{Filing, filing, number_set, number_given}
use Rattle.register.specs.Ledger.{Ledger, empty_ledger, ledger_refusal, entered, ledger_after, LineClaim, FirstClaim}
use Rattle.register.proofs.LineLaws.{line_for-length, figures_back, total_back, shares_back, lumps_back}
use Rattle.register.proofs.LayoutLaws.{Whole, bytes_more, whole_more}
use Rattle.register.proofs.CheckLaws.{check_more, written_faultless}
use Rattle.register.proofs.FileLaws.{Granted, refusal_none, given_first, given_right, given_next, given_known}

-- a filing is refused and the ledger stays, or no refusal applies and its line is entered
pub entered_by : (P : Ledger → Type 0) (buffer : ℕ) (b : Ledger) (f : Filing) → ((ledger_refusal buffer b f ≡ 0 → ⊥) → P b)
    → (ledger_refusal buffer b f ≡ 0 → P (entered b f)) → P (ledger_after buffer b f)
unfolding ledger_after
entered_by P buffer b f stay enter = by_zero P (ledger_refusal buffer b f) (entered b f) b enter stay

pub entered_only : (P : Ledger → Type 0) (buffer : ℕ) (b : Ledger) (f : Filing) → ledger_refusal buffer b f ≡ 0 → P (entered b f)
    → P (ledger_after buffer b f)
entered_only P buffer b f none p = entered_by P buffer b f (λ refused. absurd (refused none)) (λ _. p)

-- what holds of a filing that is granted
pub ledger_granted : (buffer : ℕ) (b : Ledger) (f : Filing) → ledger_refusal buffer b f ≡ 0
    → Granted f (bad_used buffer (used_by b.lines) || not (eqb (check_lines 0 0 b.lines).refusal 0)) buffer (used_by b.lines) b.lines
unfolding ledger_refusal
ledger_granted buffer b f = refusal_none f _ buffer (used_by b.lines) b.lines

-- whole lines that a buffer holds and that check sound
pub record Held (buffer : ℕ) (b : Ledger) : Type 0 where
  pub whole : Whole line_layout b.lines
  pub room : used_by b.lines ≤ buffer
  pub sound : (check_lines 0 0 b.lines).refusal ≡ 0

pub held_empty : (buffer : ℕ) → Held buffer empty_ledger
unfolding check_lines_by
held_empty buffer = record { whole = tt; room = omega arith; sound = refl }

pub held_after : (buffer : ℕ) (b : Ledger) (f : Filing) → Held buffer b → Held buffer (ledger_after buffer b f)
held_after buffer b f held =
    entered_by (Held buffer) buffer b f (λ refused. held)
    (λ none.
    let g = ledger_granted buffer b f none in
    let n = number_given b.lines f in
    let l = line_for n f.line in
    let long = line_for-length n f.line in
    record {
      whole = whole_more line_layout b.lines l held.whole long;
      room = omega (arith, ap length (bytes_more b.lines l), length-append (bytes_of b.lines) l, g.space);
      sound =
          check_more line_layout b.lines l 0 0 held.sound
          (written_faultless n f.line g.free (next_number b.lines) (given_right b.lines f));
    })

-- the line of a granted filing keeps what is claimed of it
line_claim : (number : ℕ) (f : Filing) → number < 4294967296 → refusal_of f.line ≡ 0
    → LineClaim number f (line_for number f.line)
line_claim number f low accepted = record {
  accepted = accepted;
  text = refl;
  read = figures_back number f.line low;
  best = rw (lumps_back number f.line low, total_back number f.line low) (quote_best f.line accepted);
  remaining = rw (shares_back number f.line low, total_back number f.line low) (remaining_claim f.line accepted);
  allowance = rw (total_back number f.line low) (allowance_claim f.line accepted);
  in_turn = rw (lumps_back number f.line low) (in_turn_claim f.line accepted);
}

-- the number that a filing sets is what is claimed of it
first_claim : (f : Filing) → FirstClaim f (number_set f)
unfolding number_set
first_claim f = record {
  given = λ h. simp (ne_eqb f.first 0 (omega arith));
  default = λ e. simp (eq-eqb f.first 0 e) (omega arith);
}

-- the number that the first of filings sets
abbrev pub first_set_of : List Filing → ℕ
first_set_of [] = 0
first_set_of (f ∷ fs) = number_set f

-- later ones set nothing
set_once : (fs gs : List Filing) → 0 < length fs → first_set_of (fs ++ gs) ≡ first_set_of fs
set_once [] gs h = absurd (omega arith)
set_once (f ∷ fs) gs h = refl

pub set_claim : (fs : List Filing) → 0 < length fs → FirstClaim (get_or fs 0 (filing 0 [])) (first_set_of fs)
set_claim [] h = absurd (omega arith)
set_claim (f ∷ fs) h = first_claim f

-- the ledger's lines are those of the granted filings, numbered from what the first of them set on; what a next one would be given
-- is said of any, since in an empty ledger it sets the number itself
pub record Booked (b : Ledger) : Type 0 where
  pub count : length b.lines ≡ length b.granted
  pub next : (f : Filing) → number_given b.lines f ≡ first_set_of (b.granted ++ (f ∷ [])) + length b.granted
  pub lines : (k : ℕ) → k < length b.granted
      → LineClaim (first_set_of b.granted + k) (get_or b.granted k (filing 0 [])) (get_or b.lines k [])

pub booked_empty : Booked empty_ledger
booked_empty = record {
  count = refl;
  next = λ f. given_first f ∙ sym (add-zero (number_set f));
  lines = λ k h. absurd (omega arith);
}

pub booked_after : (buffer : ℕ) (b : Ledger) (f : Filing) → Booked b → Booked (ledger_after buffer b f)
unfolding following
booked_after buffer b f booked =
    entered_by Booked buffer b f (λ refused. booked)
    (λ none.
    let g = ledger_granted buffer b f none in
    let n = number_given b.lines f in
    let l = line_for n f.line in
    let granted = b.granted ++ (f ∷ []) in
    let some : 0 < length granted = simp length-append (omega arith) in
    record {
      count = simp length-append (omega (arith, booked.count));
      next = λ e.
          given_known (b.lines ++ (l ∷ [])) e (following n) (given_next b.lines f g.free) (omega arith)
          ∙ rw (set_once granted (e ∷ []) some) (simp length-append (omega (arith, booked.next f)));
      lines = λ k h.
          elim (dec_lt k (length b.granted)) [
            | yes old ↦
                rw (
                  set_once b.granted (f ∷ []) (omega arith),
                  get_or-append b.granted (f ∷ []) (filing 0 []) k old,
                  get_or-append b.lines (l ∷ []) [] k (omega (arith, booked.count)),
                ) (booked.lines k old)
            | no new ↦
                let e : k ≡ length b.granted = omega (arith, simp length-append at h) in
                rw (
                  get_or_at b.granted f [] (filing 0 []) k (sym e),
                  get_or_at b.lines l [] [] k (booked.count ∙ sym e),
                  e,
                  ← booked.next f,
                ) (line_claim n f g.free g.accepted)
          ];
    })
