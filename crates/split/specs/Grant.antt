-- The grant ("Grant" of document 01): lowest price first, equal prices in line order, each pension the most its cap and the
-- remaining priced limit allow, "until the allowance is spent" (request [2] of document 02). Assumes nothing.
use Rattle.std.specs.Prelude.{ℕ, zero, suc, ◌-◌, ◌*◌, ◌/◌, min, Bool, true, false, cond, ◌&&◌, ◌||◌, List, [], ◌∷◌, map, leb, ltb, eqb, length, get_or, set}
use Rattle.factors.specs.declared.money.LumpPence.{LumpPence}
use Rattle.split.specs.Allowance.{Allowance}
use Rattle.split.specs.declared.limits.Benefit.{Benefit}
use Rattle.split.specs.Allowance.{allowed, after_lump}
use Rattle.split.specs.Limits.{price_of, priced_limit}

-- a pension in the grant: its price, its cap, the lump it has been given, and whether its turn is still to come
pub record Row : Type 0 where
  pub price : ℕ
  pub cap : LumpPence
  pub lump : LumpPence
  pub waiting : Bool

-- the row that stands for none
abbrev pub no_row : Row
no_row = record { price = 0; cap = record { 0 = 0 }; lump = record { 0 = 0 }; waiting = false }

-- a pension before its turn
abbrev pub row_of : Benefit → Row
row_of b = record { price = price_of b.factor; cap = b.cap; lump = record { 0 = 0 }; waiting = true }

-- the row at a place
abbrev pub row_at : List Row → ℕ → Row
row_at rs i = get_or rs i no_row

-- "lowest price first, equal prices in line order": a row has its turn before one behind it
abbrev pub goes_first : Row → Row → Bool
goes_first r behind = leb r.price behind.price

-- the place of the first waiting row of the lowest price; the number of rows where none waits
unfoldable pub cheapest : List Row → ℕ
cheapest [] = 0
cheapest (r ∷ rs) =
    cond (r.waiting && (eqb (cheapest rs) (length rs) || goes_first r (row_at rs (cheapest rs))))
    0
    (suc (cheapest rs))

-- the most that a row's cap and what is left of the limit allow
unfoldable pub most : Row → ℕ → ℕ
most r left = min r.cap.0 (left / r.price)

-- the row with its lump, its turn past
abbrev pub served : Row → ℕ → Row
served r g = record { price = r.price; cap = r.cap; lump = record { 0 = g }; waiting = false }

-- the rows when the one at a place has had its turn and was given g
abbrev pub serve : List Row → ℕ → ℕ → List Row
serve rs i g = set rs i (served (row_at rs i) g)

-- what the next turn gives: the most that the cheapest waiting row may have, as far as the allowance allows it
abbrev pub next_lump : List Row → ℕ → Allowance → ℕ
next_lump rs left a = allowed a (most (row_at rs (cheapest rs)) left)

-- and what it leaves of the limit, and of the allowance
abbrev pub next_left : List Row → ℕ → Allowance → ℕ
next_left rs left a = left - next_lump rs left a * (row_at rs (cheapest rs)).price

abbrev pub next_allowance : List Row → ℕ → Allowance → Allowance
next_allowance rs left a = after_lump a (next_lump rs left a)

-- n turns, with what is left of the priced limit and of the allowance: each serves the cheapest row that waits
unfoldable pub turns : ℕ → List Row → ℕ → Allowance → List Row
turns zero rs left a = rs
turns (suc n) rs left a =
    cond (ltb (cheapest rs) (length rs))
    (turns n (serve rs (cheapest rs) (next_lump rs left a)) (next_left rs left a) (next_allowance rs left a))
    rs

-- the lumps of rows
abbrev pub lumps_of : List Row → List ℕ
lumps_of rs = map (λ r. r.lump.0) rs

-- the lumps granted, in line order: as many turns as there are pensions
unfoldable pub grant : Allowance → List Benefit → List ℕ
grant a bs = lumps_of (turns (length bs) (map row_of bs) (priced_limit bs) a)
