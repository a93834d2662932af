-- The quote that the code makes of the rows of a case is the quote of the case: turns over the rows of its pensions are
-- its grant, and the refusal or the grant is that of every line that the pensions and the amount used were read from. Assumes
-- nothing.
use Prim.Native.Nat.{ℕ, ◌+◌, ◌≤◌, ◌<◌}
use mathlib.Core.List.{List, [], ◌∷◌, map}
use mathlib.Core.Path.{◌≡◌, refl, ◌∙◌, ap, ap₂}
use native.Mathlib.Nat.{le_trans}
use native.Mathlib.Omega.{arith}
use lib.ListN.{length, get_or, drop, length-map}
use Rattle.std.specs.Prelude.{All}
use Rattle.std.proofs.lemmas.List.{get_or-map}
use Rattle.std.proofs.lemmas.List.Sums.{sum_by-cons}
use borrow.Author.Tests.{eq-eqb, ne_eqb}
use Rattle.factors.specs.declared.money.LumpPence.{LumpPence}
use Rattle.split.specs.Allowance.{Allowance}
use Rattle.split.specs.declared.case.Head.{Head}
use Rattle.split.specs.declared.case.Pension.{Pension}
use Rattle.split.specs.declared.limits.PensionRow.{PensionRow}
use Rattle.split.specs.declared.answers.Share.{Share}
use Rattle.split.specs.Answers.{Quote}
use Rattle.split.specs.Case.{no_pension, pensions_at, allowance_used_at, case_length}
use Rattle.split.specs.Bytes.{FieldOf}
use Rattle.split.specs.Refusal.{age_of}
use Rattle.split.specs.Benefits.{worked_pension, factor_of, benefit_of, benefits_of}
use Rattle.split.specs.Allowance.{allowance_of}
use Rattle.split.specs.Limits.{total, total_pension, priced_limit}
use Rattle.split.specs.Grant.{Row, turns, lumps_of, grant}
use Rattle.split.specs.Grant.{row_of as start_of}
use Rattle.split.specs.Ranges.{ShareRange}
use Rattle.split.specs.Quote.{shares_of, padded, lumps_granted, granted_quote, refused_quote}
use Rattle.split.specs.Working.{multiple_benefit, no_row, row_of, row_in, before_turn, benefits_in, pension_total, lump_total, share_in, WorkedOut, case_quote}
use Rattle.split.proofs.Accepted.{Accepted, accepted_pensions}
use Rattle.split.proofs.Prices.{price_floor}
use Rattle.split.proofs.GrantLoop.{pensions_summed}
use Rattle.split.proofs.RangesLaws.{lumps_small, shares_range}
use Rattle.split.proofs.WorkingLaws.{share_worked}

-- the rows of pensions before their turns, as the grant has them, and together
rows_start : (h : Head) (ps : List Pension) → map row_in (map (row_of h) ps) ≡ map start_of (benefits_of h ps)
unfolding row_of multiple_benefit benefit_of
rows_start h [] = refl
rows_start h (p ∷ ps) = ap (λ (rs : List Row). start_of (benefit_of h p) ∷ rs) (rows_start h ps)

rows_total : (h : Head) (ps : List Pension) → total_pension (benefits_in (map (row_of h) ps)) ≡ total_pension (benefits_of h ps)
unfolding row_of multiple_benefit benefit_of
rows_total h [] = refl
rows_total h (p ∷ ps) = ap (λ (t : ℕ). worked_pension h p + t) (rows_total h ps)

-- none had its turn
none_taken : (h : Head) (ps : List Pension) → map before_turn (map (row_of h) ps) ≡ map (row_of h) ps
unfolding row_of
none_taken h [] = refl
none_taken h (p ∷ ps) = ap (λ (rows : List PensionRow). row_of h p ∷ rows) (none_taken h ps)

-- the shares of rows of the pensions
shares_made : (h : Head) (ps : List Pension) (rows : List PensionRow) → map before_turn rows ≡ map (row_of h) ps
    → map share_in rows ≡ shares_of h ps (lumps_of (map row_in rows))
shares_made h [] [] kept = refl
shares_made h [] (r ∷ rows) kept = absurd (omega (arith, ap length kept))
shares_made h (p ∷ ps) [] kept = absurd (omega (arith, ap length kept))
shares_made h (p ∷ ps) (r ∷ rows) kept =
    let same : before_turn r ≡ row_of h p = ap (λ (l : List PensionRow). get_or l 0 no_row) kept in
    ap₂ ◌∷◌ (share_worked h p r same) (shares_made h ps rows (ap (drop 1) kept))

-- and their lumps together
lumps_summed : (rows : List PensionRow) → lump_total rows ≡ total (lumps_of (map row_in rows))
lumps_summed [] = refl
lumps_summed (r ∷ rows) = sum_by-cons (λ (x : PensionRow). x.lump.0) r rows ∙ ap (λ (t : ℕ). r.lump.0 + t) (lumps_summed rows)

-- the rows that an accepted case is worked out to, before the grant
module _ (h : Head) (ps : List Pension) (rows : List PensionRow) (made : rows ≡ map (row_of h) ps) where
  -- their pensions are small
  pub pensions_small : Accepted h ps → pension_total rows ≤ 50000000
  pensions_small a = rw (← pensions_summed rows, made, rows_total h ps) (accepted_pensions h ps a)

  -- a price is above 0
  pub price_positive : All (λ (r : PensionRow). 0 < r.price) rows
  unfolding row_of
  price_positive j d place =
      let inside : j < length ps = rw (made, length-map ps (row_of h)) at place in
      rw (made, get_or-map (row_of h) ps j no_pension d inside)
      (omega (arith, price_floor (factor_of (age_of h) (get_or ps j no_pension))))

  -- and after it
  module _ (a : Allowance) (after : List PensionRow)
      (taken : map row_in after ≡ turns (length rows) (map row_in rows) (priced_limit (benefits_in rows)) a)
      (same : map before_turn after ≡ map before_turn rows) where
    -- they are those of the pensions still
    pub rows_kept : map before_turn after ≡ map (row_of h) ps
    rows_kept = same ∙ ap (map before_turn) made ∙ none_taken h ps

    -- with the lumps of the grant
    pub grant_worked : lumps_of (map row_in after) ≡ grant a (benefits_of h ps)
    unfolding grant
    grant_worked =
        ap lumps_of taken
        ∙ rw (made, rows_start h ps, rows_total h ps, length-map ps (row_of h), length-map ps (benefit_of h)) refl

    pub lumps_granted_small : Accepted h ps → lump_total after ≤ 1000000000
    lumps_granted_small accepted = rw (lumps_summed after) (lumps_small a h ps accepted (lumps_of (map row_in after)) grant_worked)

    pub rows_range : Accepted h ps → All ShareRange after
    rows_range accepted = shares_range a h ps after accepted rows_kept grant_worked

-- the figures made one after the other are those of the grant
pub quote_made : (h : Head) (ps : List Pension) (used : ℕ) (rows : List PensionRow) (sum : LumpPence) (shares : List Share)
    → map before_turn rows ≡ map (row_of h) ps
    → lumps_of (map row_in rows) ≡ grant (allowance_of h.commencement used) (benefits_of h ps) → sum.0 ≡ lump_total rows
    → shares ≡ padded (map share_in rows)
    → ◌≡◌ {A = Quote} (record { refusal = 0; member = h.member; total = sum; shares = shares }) (granted_quote h ps used)
unfolding granted_quote lumps_granted
quote_made h ps used rows sum shares kept granted summed shared =
    let total_made = summed ∙ lumps_summed rows ∙ ap total granted in
    let made = shared ∙ ap padded (shares_made h ps rows kept ∙ ap (shares_of h ps) granted) in
    λ i. record { refusal = 0; member = h.member; total = record { 0 = total_made i }; shares = made i }

-- of every line that the pensions, and behind them the amount used, were read from
module _ {h : Head} {b : List ℕ} {n refused : ℕ} {rows : List PensionRow} (w : WorkedOut h b n refused rows) (characters : ℕ)
    (long : case_length n ≤ characters) (q : Quote) where
  pub case_refused : (refused ≡ 0 → ⊥) → q ≡ refused_quote refused
      → FieldOf b characters q (λ s. case_quote h (pensions_at s n) (allowance_used_at s (case_length n) characters))
  unfolding case_quote
  case_refused some made s bytes within =
      made ∙ rw (← w.read s bytes (le_trans long within), ← w.judged) (simp (ne_eqb refused 0 some))

  pub case_granted : (used : ℕ) → refused ≡ 0 → FieldOf b characters used (λ s. allowance_used_at s (case_length n) characters)
      → q ≡ granted_quote h w.pensions used
      → FieldOf b characters q (λ s. case_quote h (pensions_at s n) (allowance_used_at s (case_length n) characters))
  unfolding case_quote
  case_granted used none read made s bytes within =
      made
      ∙ rw (← w.read s bytes (le_trans long within), ← w.judged, ← read s bytes within) (simp (eq-eqb refused 0 none))
