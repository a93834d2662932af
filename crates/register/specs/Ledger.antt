-- The ledger, which is the "plain book" of document 01, and the claim of demand 3 about a list of filings. The ledger is fed
-- each filing and the buffer's length, never the register's content. Assumes nothing.
use Rattle.std.specs.Prelude.{ℕ, ◌+◌, ◌*◌, ◌<◌, cond, not, ◌||◌, List, [], ◌∷◌, ◌++◌, ◌≡◌, eqb, length, get_or, drop}
use Rattle.split.specs.Case.{head_of}
use Rattle.split.specs.Refusal.{refusal_of}
use Rattle.split.specs.Quote.{BestLumps}
use Rattle.split.specs.Claims.{benefits_in, RemainingClaim, AllowanceClaim, InTurn}
use Rattle.register.specs.Answers.{Filed}
use Rattle.register.specs.Line.{figures_for, figures_in, line_for, total_in, shares_in, lumps_in_line}
use Rattle.register.specs.Layout.{Register, bytes_of, used_by}
use Rattle.register.specs.Check.{bad_used, check_lines}
use Rattle.register.specs.Steps.{Step, runs}
use Rattle.register.specs.File.{Filing, filing, number_given, refusal_given, filed_answer}

-- "Its state is a list of register lines, none at first, which stand for the used part"; beside them stand the filings granted
-- so far, for which only the claim below asks
pub record Ledger : Type 0 where
  pub lines : List (List ℕ)
  pub granted : List Filing

abbrev pub empty_ledger : Ledger
empty_ledger = record { lines = []; granted = [] }

-- "Refusals 1 to 10 are tested on the case line, 11 to 13 on the book's lines in a buffer of that length. If any applies,
-- the lowest is the book's refusal"
unfoldable pub ledger_refusal : ℕ → Ledger → Filing → ℕ
ledger_refusal buffer b f =
    refusal_given f (bad_used buffer (used_by b.lines) || not (eqb (check_lines 0 0 b.lines).refusal 0)) buffer
    (used_by b.lines) b.lines

-- "its line, numbered as above, with the lumps of the grant, is added at the end"
abbrev pub entered : Ledger → Filing → Ledger
entered b f =
    record {
      lines = b.lines ++ (line_for (number_given b.lines f) f.line ∷ []);
      granted = b.granted ++ (f ∷ []);
    }

-- "and the lines stay. If none does, its refusal is 0, the case is granted"
unfoldable pub ledger_after : ℕ → Ledger → Filing → Ledger
ledger_after buffer b f = cond (eqb (ledger_refusal buffer b f) 0) (entered b f) b

-- "each filing has given the book's refusal, and a granted one, as the used length, the length of the book's lines right
-- after it"
unfoldable pub ledger_step : ℕ → Ledger → Filing → Step Filed Ledger
ledger_step buffer b f =
    record {
      answer = filed_answer (ledger_refusal buffer b f) (used_by (ledger_after buffer b f).lines);
      state = ledger_after buffer b f;
    }

-- the ledger of a list of filings into a buffer of a length
abbrev pub ledger_run : ℕ → List Filing → Step (List Filed) Ledger
ledger_run buffer fs = runs (ledger_step buffer) empty_ledger fs

-- what is claimed of a line with a number, for a granted filing
pub record LineClaim (number : ℕ) (f : Filing) (l : List ℕ) : Type 0 where
  -- no refusal from the input applies to the case
  pub accepted : refusal_of f.line ≡ 0
  -- it is document 01's line of that number and that case
  pub text : l ≡ line_for number f.line
  -- read back from its digits it gives that number, that member and those figures
  pub read : figures_in l ≡ figures_for number f.line
  -- its lumps keep the caps, the allowance and the limits, and no rival that keeps them does better: see `BestLumps`
  pub best : BestLumps f.line (lumps_in_line l) (total_in l)
  -- what remains of each pension and what it gives up make the pension, its second instalment is that of its lump, and the 25%
  -- is kept: see `RemainingClaim`
  pub remaining : RemainingClaim f.line (shares_in l) (total_in l)
  -- its total keeps the allowance, and no split within caps and limit totals more unless that is spent: see `AllowanceClaim`
  pub allowance : AllowanceClaim f.line (total_in l)
  -- lowest price first, equal prices in line order: see `InTurn`
  pub in_turn : InTurn (benefits_in f.line) (lumps_in_line l)

-- what is claimed of the number that a filing sets as the first of a register: where it gives one, that is it, and where it gives
-- 0, it is 100,000 times the year of the case's commencement, plus 1
pub record FirstClaim (f : Filing) (number : ℕ) : Type 0 where
  pub given : 0 < f.first → number ≡ f.first
  pub default : f.first ≡ 0 → number ≡ 1 + 100000 * (head_of f.line).commencement.year

-- What is claimed of a list of filings fs in a register that starts empty, with the bytes s: the answers that the filings gave and
-- the register that they left.
pub record ListClaim (s : List ℕ) (fs : List Filing) (ran : Step (List Filed) Register) : Type 0 where
  -- each filing gave the ledger's refusal, and a granted one the length of the ledger's lines right after it
  pub answered : ran.answer ≡ (ledger_run (length s) fs).answer
  -- "The buffer begins with the book's lines, .. and all bytes past them are as at the start"
  pub bytes : ran.state.bytes
      ≡ bytes_of (ledger_run (length s) fs).state.lines ++ drop (used_by (ledger_run (length s) fs).state.lines) s
  -- "the used length is theirs"
  pub length_used : ran.state.used ≡ used_by (ledger_run (length s) fs).state.lines
  -- "the first number, as the first granted filing set it"
  pub first : ℕ
  pub first_set : 0 < length (ledger_run (length s) fs).state.granted
      → FirstClaim (get_or (ledger_run (length s) fs).state.granted 0 (filing 0 [])) first
  -- as many lines as granted filings; counted from 0 here, line k has the first number plus k and is the granted filing k's
  pub count : length (ledger_run (length s) fs).state.lines ≡ length (ledger_run (length s) fs).state.granted
  pub lines : (k : ℕ) → k < length (ledger_run (length s) fs).state.granted
      → LineClaim (first + k) (get_or (ledger_run (length s) fs).state.granted k (filing 0 []))
      (get_or (ledger_run (length s) fs).state.lines k [])
