-- Laws of the grant's loops: the cheapest row is found from the end, a turn of the code's rows is a turn of the definition's, and
-- as many turns as there are pensions are the grant. Assumes nothing.
use Prim.Native.Nat.{ℕ, zero, suc, ◌+◌, ◌-◌, ◌*◌, ◌/◌, ◌≤◌, ◌<◌, min}
use mathlib.Core.Bool.{Bool, true, false, cond, ◌&&◌, ◌||◌}
use mathlib.Core.List.{List, [], ◌∷◌, map}
use mathlib.Core.Path.{◌≡◌, refl, sym, ◌∙◌, ap}
use native.Mathlib.Nat.{le_trans, mul-le-mul_right}
use native.Mathlib.Omega.{arith}
use lib.Dec.{eqb}
use lib.ListN.{length, get_or, get_or-map, drop, length-drop, length-map, set, drop_of_length-le}
use lib.Seq.{drop-cons, get_or-drop}
use Rattle.std.specs.Prelude.{Option, Some, None, MatchOption}
use Rattle.std.proofs.lemmas.List.{map-set}
use Rattle.std.proofs.lemmas.List.Sums.{sum_by-cons}
use borrow.Author.Tests.{eq-eqb, ne_eqb, lt-ltb, le-ltb}
use Rattle.split.specs.declared.limits.PensionRow.{PensionRow}
use Rattle.split.specs.Allowance.{Allowance}
use Rattle.split.specs.Allowance.{allowed, after_lump}
use Rattle.split.specs.Limits.{total_pension}
use Rattle.split.specs.Working.{row_in, before_turn, benefits_in, pension_total}
use Rattle.split.specs.Working.{no_row as no_pension_row}
use Rattle.split.specs.Grant.{Row, no_row, goes_first, cheapest, row_at, most, served, turns}
use Rattle.split.proofs.AllowanceLaws.{allowed_at_most}
use Rattle.split.proofs.Turns.{most_affordable}

-- the place of the cheapest of the rows from i on, if one of them waits
abbrev pub Found : List Row → ℕ → Option ℕ → Type 0
Found rs i best =
    MatchOption best (i + cheapest (drop i rs) ≡ length rs) (λ place. (place < length rs) × (place ≡ i + cheapest (drop i rs)))

-- what the row before i is told of `best`: whether it goes first
abbrev pub Told : List Row → ℕ → Option ℕ → Bool → Type 0
Told rs i best first = MatchOption best (first ≡ true) (λ place. first ≡ goes_first (row_at rs (i - 1)) (row_at rs place))

-- so that row takes the place of `best` where it waits and goes first, and else `best` stays
module _ (rs : List Row) (i : ℕ) (some : 0 < i) (inside : i ≤ length rs) where
  abbrev pub rest : List Row
  rest = drop i rs

  abbrev pub here : Row
  here = row_at rs (i - 1)

  from : drop (i - 1) rs ≡ here ∷ rest
  from =
      let next : suc (i - 1) ≡ i = omega arith in
      drop-cons rs (i - 1) no_row (omega arith) ∙ ap (λ (k : ℕ). here ∷ drop k rs) next

  told_first : (best : Option ℕ) (first : Bool) → Found rs i best → Told rs i best first
      → first ≡ (eqb (cheapest rest) (length rest) || goes_first here (row_at rest (cheapest rest)))
  told_first None first found told =
      told ∙ sym (rw (eq-eqb (cheapest rest) (length rest) (omega (arith, length-drop i rs))) refl)
  told_first (Some place) first found told =
      told
      ∙ sym
      (rw (ne_eqb (cheapest rest) (length rest) (λ e. omega (arith, length-drop i rs)), get_or-drop i rs (cheapest rest) no_row)
      (ap (λ (k : ℕ). goes_first here (row_at rs k)) (sym found.1)))

  module _ (best : Option ℕ) (first : Bool) (found : Found rs i best) (told : Told rs i best first) where
    chosen : (w : Bool) → (here.waiting && first) ≡ w → cheapest (drop (i - 1) rs) ≡ cond w 0 (suc (cheapest rest))
    unfolding cheapest
    chosen w e = rw (from, ← told_first best first found told, e) refl

    pub found_here : (here.waiting && first) ≡ true → Found rs (i - 1) (Some (i - 1))
    found_here e = (omega arith, omega (arith, chosen true e))

    pub found_behind : (here.waiting && first) ≡ false → Found rs (i - 1) best
    found_behind e = go best found
      where
        later : cheapest (drop (i - 1) rs) ≡ suc (cheapest rest)
        later = chosen false e

        go : (b : Option ℕ) → Found rs i b → Found rs (i - 1) b
        go None f = omega (arith, later)
        go (Some place) f = (f.0, omega (arith, f.1, later))

-- from the end on none is found
pub found_none : (rs : List Row) → Found rs (length rs) None
unfolding cheapest
found_none rs = rw (drop_of_length-le rs {i = length rs} (omega arith)) (omega arith)

-- a code's row as the definition has it
pub price_at : (rows : List PensionRow) (j : ℕ) → (row_at (map row_in rows) j).price ≡ (get_or rows j no_pension_row).price
price_at rows j = ap (λ (r : Row). r.price) (get_or-map row_in rows j no_pension_row)

pub waits_at : (rows : List PensionRow) (j : ℕ) → (row_at (map row_in rows) j).waiting ≡ (get_or rows j no_pension_row).waiting
waits_at rows j = ap (λ (r : Row). r.waiting) (get_or-map row_in rows j no_pension_row)

-- prices are those before the turns
pub price_kept : (rows old : List PensionRow) → map before_turn rows ≡ map before_turn old → (j : ℕ)
    → (get_or rows j no_pension_row).price ≡ (get_or old j no_pension_row).price
price_kept rows old kept j =
    let price : List PensionRow → ℕ = λ (l : List PensionRow). (get_or l j (before_turn no_pension_row)).price in
    sym (ap (λ (r : PensionRow). r.price) (get_or-map before_turn rows j no_pension_row))
    ∙ ap price kept
    ∙ ap (λ (r : PensionRow). r.price) (get_or-map before_turn old j no_pension_row)

-- where no row waits, turns change nothing
pub turns_idle : (m left : ℕ) (a : Allowance) (rs : List Row) → cheapest rs ≡ length rs → turns m rs left a ≡ rs
unfolding turns
turns_idle zero left a rs h = refl
turns_idle (suc m) left a rs h = rw (le-ltb (cheapest rs) (length rs) (omega arith)) refl

-- a row that was given the lump of the next turn
module _ (rows : List PensionRow) (place left lump : ℕ) (a rest : Allowance) (row : PensionRow) (inside : place < length rows)
    (found : place ≡ cheapest (map row_in rows))
    (given : let old = get_or rows place no_pension_row in lump ≡ allowed a (min old.benefit.cap.0 (left / old.price)))
    (drawn : rest ≡ after_lump a lump) where
  abbrev old : PensionRow
  old = get_or rows place no_pension_row

  -- its turn is the next of the definition's
  pub turn_taken : (m k : ℕ) → m ≡ suc k → row_in row ≡ served (row_in old) lump
      → turns m (map row_in rows) left a ≡ turns k (map row_in (set rows place row)) (left - lump * old.price) rest
  unfolding turns most
  turn_taken m k next made =
      let here : row_at (map row_in rows) place ≡ row_in old = get_or-map row_in rows place no_pension_row in
      rw (
        next,
        ← found,
        lt-ltb place (length (map row_in rows)) (rw (length-map rows row_in) inside),
        here,
        ← given,
        ← drawn,
        map-set row_in rows place row,
        made,
      ) refl

  -- it costs at most what is left
  pub lump_affordable : lump * old.price ≤ left
  unfolding most
  lump_affordable =
      rw given
      (le_trans (mul-le-mul_right old.price (allowed_at_most a (min old.benefit.cap.0 (left / old.price))))
      (most_affordable (row_in old) left))

-- the pensions of rows together, as the priced limit has them
pub pensions_summed : (rows : List PensionRow) → total_pension (benefits_in rows) ≡ pension_total rows
pensions_summed [] = refl
pensions_summed (r ∷ rows) =
    rw (sum_by-cons (λ (r : PensionRow). r.benefit.pension.0) r rows, pensions_summed rows) refl
