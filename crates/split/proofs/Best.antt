-- The grant is the best split. Row by row, a rival pays at least the level for each penny more than a settled row has, and
-- saves at most the level by each penny less; since less than a level is left, its total is no greater. An exact rival is
-- over the priced limit by at most its total, which is at most a level: one penny. Where the allowance is spent instead, no
-- rival that keeps it totals more. Assumes nothing.
use Prim.Native.Nat.{ℕ, suc, ◌+◌, ◌-◌, ◌*◌, ◌≤◌, ◌<◌}
use mathlib.Core.Bool.{true, false≢true}
use mathlib.Core.List.{List, [], ◌∷◌, map}
use mathlib.Core.Path.{◌≡◌, refl, sym, ◌∙◌}
use native.Mathlib.Decide.{dec_lt}
use native.Mathlib.Nat
use native.Mathlib.Omega.{arith}
use lib.ListN.{length}
use Rattle.calendar.specs.Sums.{sum_of}
use Rattle.split.specs.Allowance.{Allowance}
use Rattle.split.specs.declared.limits.Benefit.{Benefit}
use Rattle.split.specs.Allowance.{no_allowance, KeepsAllowance, allowed}
use Rattle.split.specs.Limits.{total, total_cap, WithinCaps, spend, priced_limit, KeepsPriced, KeepsExact, PositiveTops, Best}
use Rattle.split.specs.Grant.{Row, row_of, turns, lumps_of, grant, row_at}
use Rattle.split.proofs.LimitsLaws.{total_capped}
use Rattle.split.proofs.Prices.{priced_exact, exact_priced}
use Rattle.split.proofs.AllowanceLaws.{allowed_kept, allowed_left}
use Rattle.split.proofs.Served.{Matches, none, more, paid, lumps_total, lumps_capped, Run}
use Rattle.split.proofs.Level.{Fair, Settled}
use Rattle.split.proofs.Turns.{Ended, at_level, at_allowance, grant_ended}

-- the lumps of rows spend what the rows cost
lumps_spend : {bs : List Benefit} {rs : List Row} → Matches bs rs → spend bs (lumps_of rs) ≡ sum_of paid rs
lumps_spend none = refl
lumps_spend (more price cap rest) = rw (← price, lumps_spend rest)

-- more at the lower price and less at the higher costs no more than the other way round
crosswise : {x g p q : ℕ} → x ≤ g → p ≤ q → g * p + x * q ≤ x * p + g * q
crosswise {x} {g} {p} {q} h k =
    omega (arith, simp Nat.mul-sub at (Nat.mul-le-mul_right (q - p) h), Nat.mul-le-mul_left x k, Nat.mul-le-mul_left g k)

-- a row against a rival amount x: a penny more costs at least the level, a penny less saves at most the level
row_rival : {q left : ℕ} {r : Row} (x : ℕ) → Fair q left r → x ≤ r.cap.0 → paid r + x * q ≤ x * r.price + r.lump.0 * q
row_rival {q} {r} x fair h = go (dec_lt r.price q) (dec_lt q r.price)
  where
    go : Dec (r.price < q) → Dec (q < r.price) → paid r + x * q ≤ x * r.price + r.lump.0 * q
    go (yes below) other = crosswise (omega (arith, fair.cheaper below)) (omega arith)
    go (no above) (yes over) =
        omega (arith, crosswise {x = r.lump.0} {g = x} {p = q} {q = r.price} (omega (arith, fair.dearer over)) (omega arith))
    go (no above) (no below) = let same : r.price ≡ q = omega arith in rw same (omega arith)

-- the same of all rows against a rival split
pub rival : {q left : ℕ} {bs : List Benefit} {rs : List Row} (ys : List ℕ) → Matches bs rs → ((j : ℕ) → Fair q left (row_at rs j))
    → WithinCaps bs ys → sum_of paid rs + total ys * q ≤ spend bs ys + total (lumps_of rs) * q
rival [] none fair capped = omega arith
rival (y ∷ ys) none fair capped = absurd capped
rival [] (more price cap rest) fair capped = absurd capped
rival (y ∷ ys) (more price cap rest) fair capped =
    rw (← price)
    (simp Nat.add-mul (omega (arith, row_rival y (fair 0) (omega arith), rival ys rest (λ j. fair (suc j)) capped.1)))

-- a rival that is over the priced limit by at most k levels is better by at most k
rival_over : {bs : List Benefit} {floor : ℕ} {rs : List Row} (settled : Settled bs floor rs) (k : ℕ) (ys : List ℕ) → WithinCaps bs ys
    → spend bs ys ≤ priced_limit bs + k * settled.state.level → total ys ≤ total (lumps_of rs) + k
rival_over {rs = rs} settled k ys capped spent =
    Nat.le_of_suc-le-suc
    (Nat.lt_of_mul-lt-mul_right settled.state.level {m = total ys} {n = suc (total (lumps_of rs) + k)}
    (simp (Nat.suc-mul, Nat.add-mul)
    (omega (arith, rival ys settled.state.run.matches settled.state.fair capped))))

-- rows between turns keep the caps and the priced limit, and the allowance where that is told
run_priced : {a : Allowance} {bs : List Benefit} {rs : List Row} {left : ℕ} → Run bs rs left → KeepsAllowance a (total (lumps_of rs))
    → KeepsPriced a bs (lumps_of rs)
run_priced run keeps = record {
  caps = lumps_capped run.matches run.capped;
  allowance = keeps;
  within = omega (arith, lumps_spend run.matches, run.spent);
}

-- so they are best where no rival that keeps as much totals more, or by more than a penny under the exact limit
run_best : {a : Allowance} {bs : List Benefit} {rs : List Row} {left : ℕ} → PositiveTops bs → Run bs rs left
    → KeepsAllowance a (total (lumps_of rs)) → ((ys : List ℕ) → KeepsPriced a bs ys → total ys ≤ total (lumps_of rs))
    → ((ys : List ℕ) → KeepsExact a bs ys → total ys ≤ total (lumps_of rs) + 1) → Best a bs (lumps_of rs)
run_best {bs = bs} {rs = rs} positive run keeps best nearly = record {
  tops = positive;
  priced = run_priced run keeps;
  exact = priced_exact bs (lumps_of rs) positive (run_priced run keeps);
  best = best;
  nearly = nearly;
}

-- as settled rows are, where the sum of the caps is at most the floor of their level
settled_best : {a : Allowance} {bs : List Benefit} {floor : ℕ} {rs : List Row} → PositiveTops bs → total_cap bs ≤ floor
    → Settled bs floor rs → KeepsAllowance a (total (lumps_of rs)) → Best a bs (lumps_of rs)
settled_best {bs = bs} positive caps settled keeps =
    run_best positive settled.state.run keeps
    (λ ys kept. omega (arith, rival_over settled 0 ys kept.caps (omega (arith, kept.within))))
    (λ ys kept. rival_over settled 1 ys kept.caps
    (omega (arith, (exact_priced bs ys positive kept).within, total_capped bs ys kept.caps)))

-- and rows whose lumps are all of the allowance
spent_best : {a : Allowance} {bs : List Benefit} {rs : List Row} {left : ℕ} → PositiveTops bs → Run bs rs left → a.applies ≡ true
    → total (lumps_of rs) ≡ a.left.0 → Best a bs (lumps_of rs)
spent_best positive run applies all =
    run_best positive run (λ e. omega arith) (λ ys kept. omega (arith, kept.allowance applies))
    (λ ys kept. omega (arith, kept.allowance applies))

-- the grant keeps caps, allowance and both limits, and no split that keeps the allowance does better, or by more than a penny
-- under the exact limit
pub grant_best : (a : Allowance) (bs : List Benefit) → PositiveTops bs → total_cap bs ≤ 3000000000 → Best a bs (grant a bs)
unfolding grant
grant_best a bs positive caps = go (grant_ended a bs)
  where
    go : {rs : List Row} → Ended a bs 3000000000 rs → Best a bs (lumps_of rs)
    go {rs} (at_level s keeps) = settled_best positive caps s (λ e. omega (arith, lumps_total rs, keeps e))
    go {rs} (at_allowance run applies all) = spent_best positive run applies (lumps_total rs ∙ all)

-- The total under an allowance is as much as it allows of the total without one.
pub grant-total : (a : Allowance) (bs : List Benefit) → PositiveTops bs → total_cap bs ≤ 3000000000
    → total (grant a bs) ≡ allowed a (total (grant no_allowance bs))
unfolding grant
grant-total a bs positive caps = go (grant_ended a bs)
  where
    free : List ℕ
    free = lumps_of (turns (length bs) (map row_of bs) (priced_limit bs) no_allowance)

    without : Best no_allowance bs free
    without = grant_best no_allowance bs positive caps

    -- the lumps of a grant under an allowance are a rival where there is none
    below : {rs : List Row} {left : ℕ} → Run bs rs left → total (lumps_of rs) ≤ total free
    below {rs} run = without.best (lumps_of rs) (run_priced run (λ e. absurd (false≢true e)))

    go : {rs : List Row} → Ended a bs 3000000000 rs → total (lumps_of rs) ≡ allowed a (total free)
    go {rs} (at_level s keeps) =
        let best : Best no_allowance bs (lumps_of rs) = settled_best positive caps s (λ e. absurd (false≢true e)) in
        let same : total (lumps_of rs) ≡ total free = omega (arith, below s.state.run, best.best free without.priced) in
        rw (← same) (sym (allowed_kept a (total (lumps_of rs)) (λ e. omega (arith, lumps_total rs, keeps e))))
    go {rs} (at_allowance run applies all) =
        lumps_total rs ∙ all ∙ sym (allowed_left a (total free) applies (omega (arith, lumps_total rs, all, below run)))
