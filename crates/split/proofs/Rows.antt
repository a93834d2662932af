-- Rows of the grant: a sum over rows and a fact of every row when one row is replaced, and which row `cheapest` finds.
-- A fact of every row is stated of every place; past the end is the row that stands for none. Assumes nothing.
use Prim.Native.Nat.{ℕ, zero, suc, ◌+◌, ◌≤◌, ◌<◌}
use mathlib.Core.Bool.{Bool, true, false, cond, ◌&&◌, ◌||◌, false≢true}
use mathlib.Core.List.{List, [], ◌∷◌, map}
use mathlib.Core.Path.{◌≡◌, refl, sym, ◌∙◌}
use native.Mathlib.Omega.{arith}
use lib.Dec.{eqb}
use lib.ListN.{length, set}
use Rattle.std.proofs.lemmas.Bool.Decides.{nat_tests}
use borrow.Author.Tests.{eqb-true, eqb-false}
use Rattle.calendar.specs.Sums.{sum_of}
use Rattle.split.specs.declared.limits.Benefit.{Benefit}
use Rattle.split.specs.Grant.{Row, no_row, row_of, row_at, goes_first, cheapest}

-- a row replaced: its number leaves the sum, and the new row's comes in
pub sum_set : (f : Row → ℕ) (rs : List Row) (i : ℕ) (r : Row) → i < length rs
    → sum_of f (set rs i r) + f (row_at rs i) ≡ sum_of f rs + f r
sum_set f [] i r h = absurd (omega arith)
sum_set f (s ∷ rs) zero r h = omega arith
sum_set f (s ∷ rs) (suc i) r h = omega (arith, sum_set f rs i r (omega arith))

-- what holds of the new row and held of every row holds of every row after
pub every_set : (P : Row → Type 0) (rs : List Row) (i : ℕ) (r : Row) → P r → ((j : ℕ) → P (row_at rs j))
    → (j : ℕ) → P (row_at (set rs i r) j)
every_set P [] i r new old j = old j
every_set P (s ∷ rs) zero r new old zero = new
every_set P (s ∷ rs) zero r new old (suc j) = old (suc j)
every_set P (s ∷ rs) (suc i) r new old zero = old 0
every_set P (s ∷ rs) (suc i) r new old (suc j) = every_set P rs i r new (λ k. old (suc k)) j

-- what holds of every pension before its turn holds of every row at the start
pub every_start : (P : Row → Type 0) (bs : List Benefit) → P no_row → ((b : Benefit) → P (row_of b))
    → (j : ℕ) → P (row_at (map row_of bs) j)
every_start P [] past new j = past
every_start P (b ∷ bs) past new zero = new b
every_start P (b ∷ bs) past new (suc j) = every_start P bs past new j

-- The order of two rows is by price, and of equal prices by line: what does not go first is dearer, and what does is no dearer.
-- This is all that is cited of it.
pub later_dearer : (r behind : Row) → goes_first r behind ≡ false → behind.price < r.price
later_dearer r behind e = grind (arith, nat_tests)

pub first_no_dearer : (r behind : Row) → goes_first r behind ≡ true → r.price ≤ behind.price
first_no_dearer r behind e = grind (arith, nat_tests)

-- `cheapest` is a place of the rows, or their number
pub cheapest_inside : (rs : List Row) → cheapest rs ≤ length rs
unfolding cheapest
cheapest_inside [] = omega arith
cheapest_inside (r ∷ rs) =
    go (r.waiting && (eqb (cheapest rs) (length rs) || goes_first r (row_at rs (cheapest rs)))) (cheapest_inside rs)
  where
    go : (here : Bool) → cheapest rs ≤ length rs → cond here 0 (suc (cheapest rs)) ≤ suc (length rs)
    go true h = omega arith
    go false h = omega arith

-- the place of a waiting row of the lowest price, or the number of rows where none waits
pub record Lowest (rs : List Row) (i : ℕ) : Type 0 where
  pub waits : i < length rs → (row_at rs i).waiting ≡ true
  pub least : (j : ℕ) → (row_at rs j).waiting ≡ true
      → (i < length rs) × ((row_at rs i).price ≤ (row_at rs j).price)

-- the first row, where it waits and none that waits behind it is cheaper
first_lowest : (r : Row) (rs : List Row) → r.waiting ≡ true
    → ((j : ℕ) → (row_at rs j).waiting ≡ true → r.price ≤ (row_at rs j).price) → Lowest (r ∷ rs) 0
first_lowest r rs w least = record {
  waits = λ h. w;
  least = elim [ zero ↦ λ v. omega arith | suc j ↦ λ v. omega (arith, least j v) ];
}

-- the place behind the first row, where that row does not wait or is dearer
later_lowest : (r : Row) (rs : List Row) (i : ℕ) → Lowest rs i
    → (r.waiting ≡ true → (i < length rs) × ((row_at rs i).price ≤ r.price)) → Lowest (r ∷ rs) (suc i)
later_lowest r rs i rest dearer = record {
  waits = λ h. rest.waits (omega arith);
  least = elim [ zero ↦ λ v. omega (arith, dearer v) | suc j ↦ λ v. omega (arith, rest.least j v) ];
}

-- `cheapest` finds it
pub cheapest_lowest : (rs : List Row) → Lowest rs (cheapest rs)
unfolding cheapest
cheapest_lowest [] = record { waits = λ h. absurd (omega arith); least = λ j v. absurd (false≢true v) }
cheapest_lowest (r ∷ rs) =
    choose r.waiting (eqb (cheapest rs) (length rs)) (goes_first r (row_at rs (cheapest rs))) refl refl refl
    (cheapest_lowest rs)
  where
    choose : (w e l : Bool) → r.waiting ≡ w → eqb (cheapest rs) (length rs) ≡ e
        → goes_first r (row_at rs (cheapest rs)) ≡ l → Lowest rs (cheapest rs)
        → Lowest (r ∷ rs) (cond (w && (e || l)) 0 (suc (cheapest rs)))
    choose true true l w e p rest =
        first_lowest r rs w (λ j v. absurd (omega (arith, rest.least j v, eqb-true (cheapest rs) (length rs) e)))
    choose true false true w e p rest =
        first_lowest r rs w (λ j v. omega (arith, rest.least j v, first_no_dearer r (row_at rs (cheapest rs)) p))
    choose true false false w e p rest =
        later_lowest r rs (cheapest rs) rest
        (λ v. omega (
          arith,
          cheapest_inside rs,
          eqb-false (cheapest rs) (length rs) e,
          later_dearer r (row_at rs (cheapest rs)) p,
        ))
    choose false e l w eq p rest = later_lowest r rs (cheapest rs) rest (λ v. absurd (false≢true (sym w ∙ v)))
