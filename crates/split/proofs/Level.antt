-- The level of rows, a price: what is cheaper is full and what is dearer is empty. While a price at the level is left, it
-- rises to the price of each row served; once less is left, nothing more is given and it stays. Assumes nothing.
use Prim.Native.Nat.{ℕ, suc, ◌-◌, ◌*◌, ◌≤◌, ◌<◌}
use mathlib.Core.Bool.{Bool, true, false, true≢false, false≢true}
use mathlib.Core.List.{List, map}
use mathlib.Core.Path.{◌≡◌, refl, sym, ◌∙◌}
use native.Mathlib.Decide.{dec_le}
use native.Mathlib.Nat
use native.Mathlib.Omega.{arith}
use lib.ListN.{length}
use Rattle.split.specs.declared.limits.Benefit.{Benefit}
use Rattle.split.specs.Limits.{priced_limit}
use Rattle.split.specs.Grant.{Row, row_of, served, row_at, serve}
use Rattle.split.proofs.Prices.{price_floor}
use Rattle.split.proofs.Rows.{every_set, every_start, Lowest}
use Rattle.split.proofs.Served.{Run, run_start, run_serve}

-- A row at the level q: cheaper than q it is full, dearer it is empty. What waits is no cheaper, and while a price at the
-- level is left, what has been served is full and no dearer.
pub record Fair (q left : ℕ) (r : Row) : Type 0 where
  pub cheaper : r.price < q → r.lump.0 ≡ r.cap.0
  pub dearer : q < r.price → r.lump.0 ≡ 0
  pub ahead : r.waiting ≡ true → q ≤ r.price
  pub behind : q ≤ left → r.waiting ≡ false → (r.price ≤ q) × (r.lump.0 ≡ r.cap.0)

-- while a price at it is left, the level may rise to any p that no waiting row is cheaper than
fair_raise : {q p left rest : ℕ} {r : Row} → q ≤ left → q ≤ p → (r.waiting ≡ true → p ≤ r.price)
    → (r.waiting ≡ true → r.lump.0 ≡ 0) → Fair q left r → Fair p rest r
fair_raise {p} {rest} {r} enough higher lower empty fair = go r.waiting refl
  where
    go : (w : Bool) → r.waiting ≡ w → Fair p rest r
    go true w = record {
      cheaper = λ h. absurd (omega (arith, lower w));
      dearer = λ h. empty w;
      ahead = lower;
      behind = λ h v. absurd (true≢false (sym w ∙ v));
    }
    go false w = record {
      cheaper = λ h. (fair.behind enough w).1;
      dearer = λ h. absurd (omega (arith, fair.behind enough w));
      ahead = lower;
      behind = λ h v. omega (arith, fair.behind enough w);
    }

-- once less is left, the level stays
fair_stay : {q left rest : ℕ} {r : Row} → rest < q → Fair q left r → Fair q rest r
fair_stay short fair = record {
  cheaper = fair.cheaper;
  dearer = fair.dearer;
  ahead = fair.ahead;
  behind = λ h. absurd (omega arith);
}

-- a row that is no cheaper than the level is given g
fair_served : {q left : ℕ} (r : Row) (g : ℕ) → q ≤ r.price → (q < r.price → g ≡ 0)
    → (q ≤ left → (r.price ≤ q) × (g ≡ r.cap.0)) → Fair q left (served r g)
fair_served r g higher empty full = record {
  cheaper = λ h. absurd (omega arith);
  dearer = empty;
  ahead = λ v. absurd (false≢true v);
  behind = λ h v. full h;
}

-- rows between turns, at a level that is at least the floor
pub record State (bs : List Benefit) (floor : ℕ) (rs : List Row) (left : ℕ) : Type 0 where
  pub run : Run bs rs left
  pub level : ℕ
  pub low : floor ≤ level
  pub fair : (j : ℕ) → Fair level left (row_at rs j)

-- at the start every row waits, at or above a floor of the prices
pub state_start : (bs : List Benefit) → State bs 3000000000 (map row_of bs) (priced_limit bs)
state_start bs = record {
  run = run_start bs;
  level = 3000000000;
  low = omega arith;
  fair =
      every_start (Fair 3000000000 (priced_limit bs)) bs
      (record { cheaper = λ h. refl; dearer = λ h. refl; ahead = λ w. absurd (false≢true w); behind = λ h w. omega arith })
      (λ b. record {
        cheaper = λ h. absurd (omega (arith, price_floor b.factor));
        dearer = λ h. refl;
        ahead = λ w. price_floor b.factor;
        behind = λ h w. absurd (true≢false w);
      });
}

-- the cheapest waiting row is given g, any amount that leaves a price only if the cap is reached
pub state_serve : {bs : List Benefit} {floor : ℕ} {rs : List Row} {left : ℕ} (i g : ℕ) → Lowest rs i → i < length rs
    → g ≤ (row_at rs i).cap.0 → g * (row_at rs i).price ≤ left
    → ((row_at rs i).price ≤ left - g * (row_at rs i).price → g ≡ (row_at rs i).cap.0)
    → State bs floor rs left → State bs floor (serve rs i g) (left - g * (row_at rs i).price)
state_serve {bs} {floor} {rs} {left} i g lowest place fits affordable reaches state = go (dec_le state.level left)
  where
    higher : state.level ≤ (row_at rs i).price
    higher = (state.fair i).ahead (lowest.waits place)

    run : Run bs (serve rs i g) (left - g * (row_at rs i).price)
    run = run_serve i g place (lowest.waits place) fits affordable state.run

    go : Dec (state.level ≤ left) → State bs floor (serve rs i g) (left - g * (row_at rs i).price)
    go (yes enough) = record {
      run = run;
      level = (row_at rs i).price;
      low = omega (arith, higher);
      fair =
          every_set (Fair (row_at rs i).price (left - g * (row_at rs i).price)) rs i _
          (fair_served (row_at rs i) g (omega arith) (λ h. absurd (omega arith)) (λ h. omega (arith, reaches h)))
          (λ j. fair_raise enough higher (λ w. (lowest.least j w).1) (state.run.unserved j) (state.fair j));
    }
    go (no short) = record {
      run = run;
      level = state.level;
      low = state.low;
      fair =
          every_set (Fair state.level (left - g * (row_at rs i).price)) rs i _
          (fair_served (row_at rs i) g higher
          (λ h. omega (arith, Nat.lt_of_mul-lt-mul_right (row_at rs i).price {m = g} {n = 1} (omega (arith, higher))))
          (λ h. absurd (omega arith)))
          (λ j. fair_stay (omega arith) (state.fair j));
    }

-- rows when the turns are over: less is left than the level
pub record Settled (bs : List Benefit) (floor : ℕ) (rs : List Row) : Type 0 where
  pub left : ℕ
  pub state : State bs floor rs left
  pub short : left < state.level

-- where no row waits, rows are settled, for the level may rise above what is left
pub settle : {bs : List Benefit} {floor : ℕ} {rs : List Row} {left : ℕ} → ((j : ℕ) → (row_at rs j).waiting ≡ true → ⊥)
    → State bs floor rs left → Settled bs floor rs
settle {bs} {floor} {rs} {left} idle state = go (dec_le state.level left)
  where
    go : Dec (state.level ≤ left) → Settled bs floor rs
    go (yes enough) = record {
      left = left;
      state = record {
        run = state.run;
        level = suc left;
        low = omega (arith, state.low);
        fair = λ j. fair_raise enough (omega arith) (λ w. absurd (idle j w)) (state.run.unserved j) (state.fair j);
      };
      short = omega arith;
    }
    go (no less) = record { left = left; state = state; short = omega arith }
