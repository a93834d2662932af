-- The turns of the grant leave rows settled, or the allowance spent: while some of it is left, each turn gives the most, which
-- leaves a price only if it is the cap, and there are as many turns as rows that wait. Assumes nothing.
use Prim.Native.Nat.{ℕ, zero, suc, ◌+◌, ◌-◌, ◌*◌, ◌/◌, ◌≤◌, ◌<◌, min}
use mathlib.Core.Bool.{Bool, true, false, cond, true≢false}
use mathlib.Core.List.{List, map}
use mathlib.Core.Path.{◌≡◌, refl, sym, ◌∙◌}
use native.Mathlib.Decide.{dec_le}
use native.Mathlib.Nat
use native.Mathlib.Omega.{arith}
use lib.Dec.{ltb}
use lib.ListN.{length}
use borrow.Author.Tests.{ltb-true, ltb-false}
use Rattle.calendar.specs.Sums.{sum_of}
use Rattle.split.specs.Allowance.{Allowance}
use Rattle.split.specs.declared.limits.Benefit.{Benefit}
use Rattle.split.specs.Allowance.{KeepsAllowance, after_lump}
use Rattle.split.specs.Limits.{WithinCaps, priced_limit}
use Rattle.split.specs.Grant.{Row, row_of, served, cheapest, most, next_lump, next_left, next_allowance, turns, grant, row_at, serve}
use Rattle.split.proofs.AllowanceLaws.{allowed_at_most, allowed_keeps, allowed_whole}
use Rattle.split.proofs.Rows.{sum_set, cheapest_lowest}
use Rattle.split.proofs.Served.{lump_of, nothing_granted, lumps_capped, Run, run_start, run_serve, wait_of, waits_start, waits_counted, waits_serve}
use Rattle.split.proofs.Level.{State, state_start, state_serve, Settled, settle}

-- the most is within the cap
most_capped : (r : Row) (left : ℕ) → most r left ≤ r.cap.0
unfolding most
most_capped r left = omega arith

-- it costs no more than what is left
pub most_affordable : (r : Row) (left : ℕ) → most r left * r.price ≤ left
unfolding most
most_affordable r left =
    Nat.le_trans (Nat.mul-le-mul_right r.price (Nat.min-le_right r.cap.0 (left / r.price)))
    (Nat.div-mul-le_self left r.price)

-- and it leaves a price only if it is the cap
pub most_reaches : (r : Row) (left : ℕ) → 1 ≤ r.price → r.price ≤ left - most r left * r.price → most r left ≡ r.cap.0
unfolding most
most_reaches r left positive h = go (dec_le r.cap.0 (left / r.price))
  where
    go : Dec (r.cap.0 ≤ left / r.price) → min r.cap.0 (left / r.price) ≡ r.cap.0
    go (yes small) = omega arith
    go (no large) =
        let h' : r.price ≤ left - left / r.price * r.price =
        rw (Nat.min-eq_right {n = left / r.price} {m = r.cap.0} (omega arith)) at h
        in absurd (omega (arith, Nat.lt-div-mul-add {a = left} positive))

-- a turn that gives the most keeps the state
pub state_turn : {bs : List Benefit} {floor : ℕ} {rs : List Row} {left : ℕ} → 1 ≤ floor → cheapest rs < length rs → State bs floor rs left
    → let r = row_at rs (cheapest rs) in State bs floor (serve rs (cheapest rs) (most r left)) (left - most r left * r.price)
state_turn {rs} {left} positive found state =
    let r = row_at rs (cheapest rs) in
    let price : 1 ≤ r.price = omega (arith, (state.fair (cheapest rs)).ahead ((cheapest_lowest rs).waits found)) in
    state_serve (cheapest rs) (most r left) (cheapest_lowest rs) found (most_capped r left) (most_affordable r left)
    (most_reaches r left price) state

-- a turn gives no more than the most, whatever the allowance
pub turn_run : {bs : List Benefit} {rs : List Row} {left : ℕ} (a : Allowance) → cheapest rs < length rs → Run bs rs left
    → Run bs (serve rs (cheapest rs) (next_lump rs left a)) (next_left rs left a)
turn_run {rs = rs} {left = left} a found run =
    let r = row_at rs (cheapest rs) in
    let less = allowed_at_most a (most r left) in
    run_serve (cheapest rs) (next_lump rs left a) found ((cheapest_lowest rs).waits found) (Nat.le_trans less (most_capped r left))
    (Nat.le_trans (Nat.mul-le-mul_right r.price less) (most_affordable r left)) run

-- rows when the turns are over, with what is left of the limit and of the allowance: none waits, and P holds
pub record AllTaken (P : List Row → ℕ → Allowance → Type 0) (rs : List Row) : Type 0 where
  pub left : ℕ
  pub rest : Allowance
  pub idle : (j : ℕ) → (row_at rs j).waiting ≡ true → ⊥
  pub holds : P rs left rest

-- as many turns as rows wait, or more, are all of them, and what each turn keeps holds in the end
module _ (P : List Row → ℕ → Allowance → Type 0)
    (next : (rs : List Row) (left : ℕ) (a : Allowance) → cheapest rs < length rs → P rs left a
    → P (serve rs (cheapest rs) (next_lump rs left a)) (next_left rs left a) (next_allowance rs left a)) where
  pub turns_over : (n : ℕ) (rs : List Row) (left : ℕ) (a : Allowance) → sum_of wait_of rs ≤ n → P rs left a → AllTaken P (turns n rs left a)
  unfolding turns
  turns_over zero rs left a count p =
      record { left = left; rest = a; idle = λ j w. omega (arith, waits_counted rs j w); holds = p }
  turns_over (suc n) rs left a count p =
      go (ltb (cheapest rs) (length rs)) refl
      (λ found. turns_over n (serve rs (cheapest rs) (next_lump rs left a)) (next_left rs left a) (next_allowance rs left a)
      (omega (arith, waits_serve rs (cheapest rs) (next_lump rs left a) found ((cheapest_lowest rs).waits found)))
      (next rs left a found p))
    where
      after : List Row
      after = turns n (serve rs (cheapest rs) (next_lump rs left a)) (next_left rs left a) (next_allowance rs left a)

      go : (t : Bool) → ltb (cheapest rs) (length rs) ≡ t → (cheapest rs < length rs → AllTaken P after) → AllTaken P (cond t after rs)
      go true test rest = rest (ltb-true (cheapest rs) (length rs) test)
      go false test rest = record {
        left = left;
        rest = a;
        idle = λ j w. omega (arith, ltb-false (cheapest rs) (length rs) test, (cheapest_lowest rs).least j w);
        holds = p;
      }

-- so the lumps of a grant are within the caps
pub grant_capped : (a : Allowance) (bs : List Benefit) → WithinCaps bs (grant a bs)
unfolding grant
grant_capped a bs =
    let run =
    (turns_over (λ rs left b. Run bs rs left) (λ rs left b found run. turn_run b found run) (length bs) (map row_of bs)
    (priced_limit bs) a (omega (arith, waits_start bs)) (run_start bs)).holds
    in lumps_capped run.matches run.capped

-- Rows between turns, with the allowance at the start, and what is left of the limit and of the allowance: what was granted and
-- what is left make what there was, and while some is left the rows are as if there were none.
record Turning (start : Allowance) (bs : List Benefit) (floor : ℕ) (rs : List Row) (left : ℕ) (a : Allowance) : Type 0 where
  run : Run bs rs left
  applies : a.applies ≡ start.applies
  granted : start.applies ≡ true → sum_of lump_of rs + a.left.0 ≡ start.left.0
  state : (a.applies ≡ true → 0 < a.left.0) → State bs floor rs left

-- a turn keeps that
turning_next : {start : Allowance} {bs : List Benefit} {floor : ℕ} {rs : List Row} {left : ℕ} {a : Allowance} → 1 ≤ floor
    → cheapest rs < length rs → Turning start bs floor rs left a
    → Turning start bs floor (serve rs (cheapest rs) (next_lump rs left a)) (next_left rs left a) (next_allowance rs left a)
unfolding after_lump
turning_next {rs = rs} {left = left} {a = a} positive found t = record {
  run = turn_run a found t.run;
  applies = t.applies;
  granted = λ e.
      omega (
        arith,
        t.granted e,
        sum_set lump_of rs (cheapest rs) (served r (next_lump rs left a)) found,
        t.run.unserved (cheapest rs) ((cheapest_lowest rs).waits found),
        allowed_keeps a (most r left) (t.applies ∙ e),
      );
  state = λ more.
      rw (allowed_whole a (most r left) (λ e. omega (arith, more e)))
      (state_turn positive found (t.state (λ e. omega (arith, more e))));
}
  where
    r : Row
    r = row_at rs (cheapest rs)

-- How the turns of a grant end: with rows that are settled, and whose lumps keep the allowance, or with lumps that are all of it.
pub data Ended (start : Allowance) (bs : List Benefit) (floor : ℕ) (rs : List Row) : Type 0 where
  at_level : Settled bs floor rs → KeepsAllowance start (sum_of lump_of rs) → Ended start bs floor rs
  at_allowance : {left : ℕ} → Run bs rs left → start.applies ≡ true → sum_of lump_of rs ≡ start.left.0 → Ended start bs floor rs

turning_end : {start : Allowance} {bs : List Benefit} {floor : ℕ} {rs : List Row} → AllTaken (Turning start bs floor) rs
    → Ended start bs floor rs
turning_end {start} {bs} {floor} {rs} over = go a.applies a.left.0 refl refl
  where
    a : Allowance
    a = over.rest

    t : Turning start bs floor rs over.left over.rest
    t = over.holds

    go : (applies : Bool) (more : ℕ) → a.applies ≡ applies → a.left.0 ≡ more → Ended start bs floor rs
    go false more e f =
        at_level (settle over.idle (t.state (λ v. absurd (true≢false (sym v ∙ e)))))
        (λ v. absurd (true≢false (sym v ∙ (sym t.applies ∙ e))))
    go true zero e f = at_allowance t.run (sym t.applies ∙ e) (omega (arith, f, t.granted (sym t.applies ∙ e)))
    go true (suc more) e f =
        at_level (settle over.idle (t.state (λ v. omega (arith, f)))) (λ v. omega (arith, t.granted v))

-- at a level that is at least every price's floor
pub grant_ended : (a : Allowance) (bs : List Benefit) → Ended a bs 3000000000 (turns (length bs) (map row_of bs) (priced_limit bs) a)
grant_ended a bs =
    turning_end
    (turns_over (Turning a bs 3000000000) (λ rs left b found t. turning_next (omega arith) found t) (length bs) (map row_of bs)
    (priced_limit bs) a (omega (arith, waits_start bs))
    (record {
      run = run_start bs;
      applies = refl;
      granted = λ e. omega (arith, nothing_granted bs);
      state = λ more. state_start bs;
    }))
