-- Demands 2 and 3 over the definitions. The list claim: what the ledger keeps, of the register that shows it from the start. A
-- filed line is found: in any register that took it, later filings only add lines behind it, and numbers rise, so no other
-- has its number. And 13 comes where the last number is FFFFFFFF, and only there. Assumes nothing.
use Prim.Native.Nat.{ℕ, ◌+◌, ◌≤◌, ◌<◌}
use mathlib.Core.Bool.{false, not}
use mathlib.Core.List.{List, [], ◌∷◌, ◌++◌, append_assoc, append-nil}
use mathlib.Core.Path.{◌≡◌, refl, sym, ◌∙◌, ap, subst}
use native.Mathlib.Decide.{dec_lt}
use native.Mathlib.Omega.{arith}
use lib.Dec.{eqb}
use lib.ListN.{length, get_or, length-append}
use lib.Seq.{get_or_at}
use borrow.Author.Tests.{eq-eqb, ne_eqb, lt-leb, le-leb, not-false}
use Rattle.calendar.specs.Calendar.{in_calendar}
use Rattle.calendar.specs.Tests.{any}
use Rattle.calendar.proofs.TestsLaws.{or_left, or_right, none_holds}
use Rattle.calendar.proofs.CalendarLaws.{calendar_range}
use Rattle.split.specs.Case.{head_of, pensions_of}
use Rattle.split.specs.Refusal.{line_conditions, undated_head, undated, conditions_with, conditions, refusal_of}
use Rattle.split.proofs.FrameLaws.{number_below}
use Rattle.register.specs.Answers.{Checked, Filed}
use Rattle.register.specs.Line.{figure_width, number_place, figures_in, line_for, number_in}
use Rattle.register.specs.Layout.{Register, lent, line_layout, used_lines}
use Rattle.register.specs.Check.{following}
use Rattle.register.specs.Steps.{Step, runs}
use Rattle.register.specs.Find.{find_refusal, find_line, has_number}
use Rattle.register.specs.File.{Filing, number_set, number_given, last_taken, file_refusal, file_step, file_run, FiledFound}
use Rattle.register.specs.Ledger.{Ledger, empty_ledger, ledger_after, ledger_step, ledger_run, ListClaim}
use Rattle.register.proofs.LineLaws.{number_back, figures_back}
use Rattle.register.proofs.CheckLaws.{number_inside, sound_number}
use Rattle.register.proofs.FindLaws.{found_at}
use Rattle.register.proofs.FileLaws.{given_first, given_behind}
use Rattle.register.proofs.StepsLaws.{runs_keep}
use Rattle.register.proofs.LedgerLaws.{entered_by, entered_only, ledger_granted, Held, held_empty, held_after, first_set_of, set_claim, Booked, booked_empty, booked_after}
use Rattle.register.proofs.Shown.{shown, shown_lines, file_sound, shown_check, shown_refusal, shown_step, shown_run, own_ledger, own_shown, own_held}

-- the ledger of a list keeps its lines whole and sound, and they are the granted filings'
ledger_held : (buffer : ℕ) (b : Ledger) (fs : List Filing) → Held buffer b → Held buffer (runs (ledger_step buffer) b fs).state
unfolding ledger_step
ledger_held buffer = runs_keep (ledger_step buffer) (Held buffer) (held_after buffer)

ledger_booked : (buffer : ℕ) (fs : List Filing) → Booked (ledger_run buffer fs).state
unfolding ledger_step
ledger_booked buffer fs = runs_keep (ledger_step buffer) Booked (booked_after buffer) empty_ledger fs booked_empty

-- demand 3
pub list_claim : (s : List ℕ) (fs : List Filing) → ListClaim s fs (file_run (lent s 0) fs)
list_claim s fs =
    let ran = shown_run s empty_ledger fs (held_empty (length s)) in
    let booked = ledger_booked (length s) fs in
    record {
      answered = ap (λ (x : Step (List Filed) Register). x.answer) ran;
      bytes = ap (λ (x : Step (List Filed) Register). x.state.bytes) ran;
      length_used = ap (λ (x : Step (List Filed) Register). x.state.used) ran;
      first = first_set_of (ledger_run (length s) fs).state.granted;
      first_set = set_claim (ledger_run (length s) fs).state.granted;
      count = booked.count;
      lines = booked.lines;
    }

-- lines that a ledger began with stay in their places
record Begins (ls : List (List ℕ)) (b : Ledger) : Type 0 where
  more : List (List ℕ)
  lines : b.lines ≡ ls ++ more

begins_after : (buffer : ℕ) (ls : List (List ℕ)) (b : Ledger) (f : Filing) → Begins ls b → Begins ls (ledger_after buffer b f)
begins_after buffer ls b f begins =
    entered_by (Begins ls) buffer b f (λ refused. begins)
    (λ none. record {
      more = begins.more ++ (line_for (number_given b.lines f) f.line ∷ []);
      lines = rw begins.lines (append_assoc ls begins.more _);
    })

-- a line of a register that shows a ledger of sound lines is found by its number
shown_found : (g : List ℕ) (b : Ledger) (k : ℕ) → Held (length g) b → k < length b.lines
    → (find_refusal (has_number (number_in (get_or b.lines k []))) (shown g b) ≡ 0)
    × (find_line (has_number (number_in (get_or b.lines k []))) (shown g b) ≡ get_or b.lines k [])
shown_found g b k held h =
    let lines = shown_lines g b held in
    let n = number_in (get_or b.lines k []) in
    let at : (j : ℕ) → j < length b.lines → number_in (get_or b.lines j []) ≡ number_in (get_or b.lines 0 []) + j =
    λ j i. sound_number line_layout number_inside b.lines 0 j held.sound i
    in
    rw lines at
    (found_at line_layout (has_number n) (shown g b)
    (ap (λ (x : Checked). x.refusal) (shown_check g b held) ∙ held.sound) k (rw lines h)
    (rw lines (eq-eqb n n refl))
    (λ j i m.
    rw lines
    (ne_eqb (number_in (get_or b.lines j [])) n
    (λ e. omega (arith, at j (rw lines at m), at k h)))))

-- of a register that shows a ledger
shown_filed : (g : List ℕ) (b : Ledger) (f : Filing) (fs : List Filing) → Held (length g) b → file_refusal (shown g b) f ≡ 0
    → FiledFound (number_given (used_lines (shown g b)) f) f (file_run (file_step (shown g b) f).state fs).state
unfolding ledger_step
shown_filed g b f fs held none =
    let given = sym (shown_refusal g b held f) ∙ none in
    let n = number_given b.lines f in
    let l = line_for n f.line in
    let low = (ledger_granted (length g) b f given).free in
    let after = (runs (ledger_step (length g)) (ledger_after (length g) b f) fs).state in
    let held' = held_after (length g) b f held in
    let ran : (file_run (file_step (shown g b) f).state fs).state ≡ shown g after =
    ap (λ (x : Step Filed Register). (file_run x.state fs).state) (shown_step g b held f)
    ∙ ap (λ (x : Step (List Filed) Register). x.state) (shown_run g (ledger_after (length g) b f) fs held')
    in
    let begins = runs_keep (ledger_step (length g)) (Begins (b.lines ++ (l ∷ []))) (begins_after (length g) (b.lines ++ (l ∷ []))) (ledger_after (length g) b f) fs
    (entered_only (Begins (b.lines ++ (l ∷ []))) (length g) b f given (record { more = []; lines = sym (append-nil _) }))
    in
    let k = length b.lines in
    let here : get_or after.lines k [] ≡ l =
    ap (λ (ls : List (List ℕ)). get_or ls k []) (begins.lines ∙ append_assoc b.lines (l ∷ []) begins.more)
    ∙ get_or_at b.lines l begins.more [] k refl
    in
    let inside : k < length after.lines = rw begins.lines (simp length-append (omega arith)) in
    let number : number_in (get_or after.lines k []) ≡ n = ap number_in here ∙ number_back n f.line low in
    let found = shown_found g after k (ledger_held (length g) (ledger_after (length g) b f) fs held') inside in
    rw (shown_lines g b held, ran)
    (record {
      present = rw number at found.0;
      line = rw (number, here) at found.1;
      shows = ap figures_in (rw (number, here) at found.1) ∙ figures_back n f.line low;
    })

-- demand 2: a filed line, found by its number after any later filings, is that line, in every register that took it
pub filed_found : (r : Register) (f : Filing) (fs : List Filing) → file_refusal r f ≡ 0
    → FiledFound (number_given (used_lines r) f) f (file_run (file_step r f).state fs).state
filed_found r f fs none =
    let sound = file_sound r f none in
    subst (λ (x : Register). FiledFound (number_given (used_lines x) f) f (file_run (file_step x f).state fs).state) (own_shown r sound)
    (shown_filed r.bytes (own_ledger r) f fs (own_held r sound) (rw (own_shown r sound) none))

-- demand 2, of 13: behind a line exactly where its number is FFFFFFFF
pub thirteen_last : (ls : List (List ℕ)) (l : List ℕ) (f : Filing) → last_taken (ls ++ (l ∷ [])) f ≡ eqb (number_in l) 4294967295
unfolding following number_in
thirteen_last ls l f =
    let low = number_below l number_place figure_width in
    rw (given_behind ls l f)
    (elim (dec_lt (number_in l) 4294967295) [
      | yes below ↦ simp (lt-leb 4294967296 (number_in l + 1) (omega arith), ne_eqb (number_in l) 4294967295 (omega arith))
      | no last ↦ simp (le-leb 4294967296 (number_in l + 1) (omega arith), eq-eqb (number_in l) 4294967295 (omega (arith, low)))
    ])

-- and never in an empty register: no accepted case commences after 2199
accepted_year : (c : List ℕ) → refusal_of c ≡ 0 → (head_of c).commencement.year ≤ 2199
unfolding refusal_of conditions_with undated_head
accepted_year c none =
    let h = head_of c in
    let ps = pensions_of c in
    let head = or_left (undated_head h) (any undated ps) (none_holds 0 (line_conditions c ++ conditions h ps) none 2) in
    let dated = or_right (not (in_calendar h.birth)) (not (in_calendar h.commencement)) head in
    (calendar_range h.commencement (not-false (in_calendar h.commencement) dated)).0.1

pub thirteen_empty : (f : Filing) → refusal_of f.line ≡ 0 → f.first < 4294967296 → last_taken [] f ≡ false
unfolding number_set
thirteen_empty f accepted four =
    rw (given_first f)
    (lt-leb 4294967296 (number_set f)
    (elim (dec_lt 0 f.first) [
      | yes some ↦ simp (ne_eqb f.first 0 (omega arith)) (omega arith)
      | no none ↦ simp (eq-eqb f.first 0 (omega arith)) (omega (arith, accepted_year f.line accepted))
    ]))
