-- The turns go by price, equal prices in line order: a row has something only where every row that comes before it has its cap. A
-- row that was served and has less left less than its price, or spent the allowance, so that no later turn gives anything.
-- Assumes nothing.
use Prim.Native.Nat.{ℕ, zero, suc, ◌-◌, ◌*◌, ◌≤◌, ◌<◌}
use mathlib.Core.Bool.{Bool, true, false, cond, ◌&&◌, ◌||◌, true≢false, false≢true}
use mathlib.Core.List.{List, [], ◌∷◌, map}
use mathlib.Core.Logic.{inl, inr, ⊎_elim}
use mathlib.Core.Path.{◌≡◌, refl, sym, ◌∙◌, ap, subst}
use native.Mathlib.Decide.{dec_lt, dec_le}
use native.Mathlib.Nat
use native.Mathlib.Omega.{arith}
use native.Nat.{ℕᴺ_discrete}
use lib.Dec.{eqb}
use lib.ListN.{length, get_or}
use borrow.Author.Tests.{eqb-true}
use Rattle.calendar.proofs.TestsLaws.{not_true_false}
use Rattle.split.specs.Allowance.{Allowance}
use Rattle.split.specs.declared.limits.Benefit.{Benefit}
use Rattle.split.specs.Allowance.{after_lump, allowed}
use Rattle.split.specs.Limits.{no_benefit, priced_limit}
use Rattle.split.specs.Grant.{Row, row_of, row_at, goes_first, cheapest, most, served, serve, next_lump, next_left, next_allowance, lumps_of, grant}
use Rattle.split.specs.Claims.{ComesBefore, price_in, InTurn}
use Rattle.split.proofs.AllowanceLaws.{allowed_at_most, allowed_keeps, allowed_short}
use Rattle.split.proofs.Prices.{price_floor}
use Rattle.split.proofs.Rows.{every_start, later_dearer, first_no_dearer, Lowest, cheapest_lowest}
use Rattle.split.proofs.Served.{Matches, none, more, row_here, row_other, price_stays, lump_of, Run, run_start, waits_start}
use Rattle.split.proofs.Turns.{most_affordable, most_reaches, turns_over, turn_run}

-- no row that waits comes before the one that `cheapest` finds
record NotBehind (rs : List Row) (i j : ℕ) : Type 0 where
  least : (row_at rs i).price ≤ (row_at rs j).price
  line : (row_at rs i).price ≡ (row_at rs j).price → i ≤ j

cheapest_first : (rs : List Row) (j : ℕ) → (row_at rs j).waiting ≡ true → NotBehind rs (cheapest rs) j
unfolding cheapest
cheapest_first [] j w = absurd (false≢true w)
cheapest_first (r ∷ rs) j w =
    choose r.waiting (eqb (cheapest rs) (length rs)) (goes_first r (row_at rs (cheapest rs))) refl refl refl
    (cheapest_first rs) (cheapest_lowest rs) j w
  where
    choose : (w e l : Bool) → r.waiting ≡ w → eqb (cheapest rs) (length rs) ≡ e
        → goes_first r (row_at rs (cheapest rs)) ≡ l
        → ((k : ℕ) → (row_at rs k).waiting ≡ true → NotBehind rs (cheapest rs) k) → Lowest rs (cheapest rs)
        → (k : ℕ) → (row_at (r ∷ rs) k).waiting ≡ true → NotBehind (r ∷ rs) (cond (w && (e || l)) 0 (suc (cheapest rs))) k
    choose true e l w q p rest low zero v = cases e l q p
      where
        cases : (e l : Bool) → eqb (cheapest rs) (length rs) ≡ e → goes_first r (row_at rs (cheapest rs)) ≡ l
            → NotBehind (r ∷ rs) (cond (true && (e || l)) 0 (suc (cheapest rs))) 0
        cases true l q p = record { least = omega arith; line = λ s. omega arith }
        cases false true q p = record { least = omega arith; line = λ s. omega arith }
        cases false false q p =
            let dearer = later_dearer r (row_at rs (cheapest rs)) p in
            record { least = omega arith; line = λ s. absurd (omega arith) }
    choose true true l w q p rest low (suc k) v =
        absurd (omega (arith, low.least k v, eqb-true (cheapest rs) (length rs) q))
    choose true false true w q p rest low (suc k) v =
        let cheaper = first_no_dearer r (row_at rs (cheapest rs)) p in
        record { least = omega (arith, (rest k v).least); line = λ s. omega arith }
    choose true false false w q p rest low (suc k) v =
        record { least = (rest k v).least; line = λ s. omega (arith, (rest k v).line s) }
    choose false e l w q p rest low zero v = absurd (false≢true (sym w ∙ v))
    choose false e l w q p rest low (suc k) v =
        record { least = (rest k v).least; line = λ s. omega (arith, (rest k v).line s) }

-- a row that was served and has its cap
abbrev Full : Row → Type 0
Full r = (r.waiting ≡ false) × (lump_of r ≡ r.cap.0)

-- a row that was served: it has its cap, or less than its price is left, or nothing of the allowance
data Over (left : ℕ) (a : Allowance) (r : Row) : Type 0 where
  has_cap : lump_of r ≡ r.cap.0 → Over left a r
  limit_out : left < r.price → Over left a r
  allowance_out : a.applies ≡ true → a.left.0 ≡ 0 → Over left a r

-- the row at i comes before the row at j
abbrev Ahead : List Row → ℕ → ℕ → Type 0
Ahead rs i j = ComesBefore (row_at rs i).price (row_at rs j).price i j

-- Rows between turns: what comes before a row that has something has had its turn and has its cap, and what was served is as
-- above.
record Turned (bs : List Benefit) (rs : List Row) (left : ℕ) (a : Allowance) : Type 0 where
  run : Run bs rs left
  full : (i j : ℕ) → Ahead rs i j → 0 < lump_of (row_at rs j) → Full (row_at rs i)
  over : (i : ℕ) → (row_at rs i).waiting ≡ false → Over left a (row_at rs i)
  priced : (i : ℕ) → (row_at rs i).waiting ≡ true → 1 ≤ (row_at rs i).price

-- no turn changes who comes before whom
ahead_stays : (rs : List Row) (c g i j : ℕ) → Ahead (serve rs c g) i j → Ahead rs i j
ahead_stays rs c g i j =
    ⊎_elim (λ h. inl (omega (arith, price_stays rs c g i, price_stays rs c g j)))
    (λ h. inr (omega (arith, price_stays rs c g i, price_stays rs c g j), h.1))

-- where less than a price is left nothing is given
nothing_affordable : (r : Row) (left : ℕ) (a : Allowance) → left < r.price → allowed a (most r left) ≡ 0
nothing_affordable r left a short =
    let none : most r left ≡ 0 =
    omega (arith, Nat.lt_of_mul-lt-mul_right r.price {m = most r left} {n = 1} (omega (arith, most_affordable r left))) in
    omega (arith, allowed_at_most a (most r left))

-- a turn keeps that
turned_next : {bs : List Benefit} {rs : List Row} {left : ℕ} {a : Allowance} → cheapest rs < length rs → Turned bs rs left a
    → Turned bs (serve rs (cheapest rs) (next_lump rs left a)) (next_left rs left a) (next_allowance rs left a)
unfolding after_lump
turned_next {rs = rs} {left = left} {a = a} found t = record {
  run = turn_run a found t.run;
  full = λ i j ahead some. go i j (ahead_stays rs c g i j ahead) some (ℕᴺ_discrete j c);
  over = λ i w. after i w (ℕᴺ_discrete i c);
  priced = λ i w. omega (arith, price_stays rs c g i, t.priced i (waited i w (ℕᴺ_discrete i c)));
}
  where
    c : ℕ
    c = cheapest rs

    r : Row
    r = row_at rs c

    g : ℕ
    g = next_lump rs left a

    waits : r.waiting ≡ true
    waits = (cheapest_lowest rs).waits found

    -- a row that has had its turn is another
    apart : (i : ℕ) → (row_at rs i).waiting ≡ false → i ≡ c → ⊥
    apart i w e = true≢false (sym waits ∙ (ap (λ (n : ℕ). (row_at rs n).waiting) (sym e) ∙ w))

    -- and stays as it is
    stays : (i : ℕ) → (row_at rs i).waiting ≡ false → lump_of (row_at rs i) ≡ (row_at rs i).cap.0
        → Full (row_at (serve rs c g) i)
    stays i w full = rw (row_other rs c i g (apart i w)) (w, full)

    -- a row ahead of the one whose turn it is has had its own
    past : (i : ℕ) → Ahead rs i c → (row_at rs i).waiting ≡ false
    past i ahead =
        not_true_false _ (λ w.
        let n = cheapest_first rs i w in
        ⊎_elim (λ h. absurd (omega (arith, n.least))) (λ h. absurd (omega (arith, n.line (sym h.0), h.1))) ahead)

    dear : (i : ℕ) → Ahead rs i c → (row_at rs i).price ≤ r.price
    dear i ahead = ⊎_elim (λ h. omega arith) (λ h. omega (arith, h.0)) ahead

    -- and has its cap where something is given now
    ended : (i : ℕ) → Ahead rs i c → 0 < g → Over left a (row_at rs i) → lump_of (row_at rs i) ≡ (row_at rs i).cap.0
    ended i ahead some (has_cap e) = e
    ended i ahead some (limit_out h) = absurd (omega (arith, nothing_affordable r left a (omega (arith, dear i ahead))))
    ended i ahead some (allowance_out applies h) = absurd (omega (arith, allowed_keeps a (most r left) applies))

    -- so what comes before a row with something has its cap after the turn
    go : (i j : ℕ) → Ahead rs i j → 0 < lump_of (row_at (serve rs c g) j) → Dec (j ≡ c)
        → Full (row_at (serve rs c g) i)
    go i j ahead some (yes e) =
        let first : Ahead rs i c = subst (λ (n : ℕ). Ahead rs i n) e ahead in
        let given : 0 < g = omega (arith, ap lump_of (ap (λ (n : ℕ). row_at (serve rs c g) n) e ∙ row_here rs c g found)) in
        stays i (past i first) (ended i first given (t.over i (past i first)))
    go i j ahead some (no other) =
        let old = t.full i j ahead (omega (arith, ap lump_of (row_other rs c j g other))) in
        stays i old.0 old.1

    -- what was served before is no worse off
    later : (i : ℕ) → Over left a (row_at rs i) → Over (next_left rs left a) (after_lump a g) (row_at rs i)
    later i (has_cap e) = has_cap e
    later i (limit_out h) = limit_out (omega arith)
    later i (allowance_out applies h) = allowance_out applies (omega arith)

    -- what the turn gives is the cap, or leaves less than the price, or is all that was left of the allowance
    now : Dec (g < most r left) → Dec (r.price ≤ left - most r left * r.price) → Over (next_left rs left a) (after_lump a g) (served r g)
    now (yes short) enough = let cut = allowed_short a (most r left) short in allowance_out cut.0 (omega (arith, cut.1))
    now (no whole) (yes enough) =
        let all : g ≡ most r left = omega (arith, allowed_at_most a (most r left)) in
        has_cap (all ∙ most_reaches r left (t.priced c waits) enough)
    now (no whole) (no enough) =
        let all : g ≡ most r left = omega (arith, allowed_at_most a (most r left)) in
        limit_out (rw all (omega arith))

    after : (i : ℕ) → (row_at (serve rs c g) i).waiting ≡ false → Dec (i ≡ c)
        → Over (next_left rs left a) (after_lump a g) (row_at (serve rs c g) i)
    after i w (yes e) =
        rw (e, row_here rs c g found) (now (dec_lt g (most r left)) (dec_le r.price (left - most r left * r.price)))
    after i w (no other) =
        rw (row_other rs c i g other) (later i (t.over i (rw (row_other rs c i g other) at w)))

    waited : (i : ℕ) → (row_at (serve rs c g) i).waiting ≡ true → Dec (i ≡ c) → (row_at rs i).waiting ≡ true
    waited i w (yes e) = rw e waits
    waited i w (no other) = rw (row_other rs c i g other) at w

-- at the start nothing is granted and every row waits
turned_start : (a : Allowance) (bs : List Benefit) → Turned bs (map row_of bs) (priced_limit bs) a
turned_start a bs = record {
  run = run_start bs;
  full = λ i j ahead some. absurd (omega (arith, every_start (λ r. lump_of r ≡ 0) bs refl (λ b. refl) j));
  over = every_start (λ r. r.waiting ≡ false → Over (priced_limit bs) a r) bs (λ w. has_cap refl) (λ b w. absurd (true≢false w));
  priced = every_start (λ r. r.waiting ≡ true → 1 ≤ r.price) bs (λ w. absurd (false≢true w)) (λ b w. omega (arith, price_floor b.factor));
}

-- rows and pensions by place
row_price : {bs : List Benefit} {rs : List Row} → Matches bs rs → (i : ℕ) → i < length bs → (row_at rs i).price ≡ price_in bs i
row_price none i place = absurd (omega arith)
row_price (more price cap rest) zero place = price
row_price (more price cap rest) (suc i) place = row_price rest i (omega arith)

row_cap : {bs : List Benefit} {rs : List Row} → Matches bs rs → (i : ℕ) → i < length bs → (row_at rs i).cap.0 ≡ (get_or bs i no_benefit).cap.0
row_cap none i place = absurd (omega arith)
row_cap (more price cap rest) zero place = cap
row_cap (more price cap rest) (suc i) place = row_cap rest i (omega arith)

lump_at : (rs : List Row) (i : ℕ) → get_or (lumps_of rs) i 0 ≡ lump_of (row_at rs i)
lump_at [] i = refl
lump_at (r ∷ rs) zero = refl
lump_at (r ∷ rs) (suc i) = lump_at rs i

turned_order : {bs : List Benefit} {rs : List Row} {left : ℕ} {a : Allowance} → Turned bs rs left a → InTurn bs (lumps_of rs)
turned_order {bs} {rs} t i j here there ahead some =
    let m = t.run.matches in
    let rows : Ahead rs i j =
    ⊎_elim (λ h. inl (omega (arith, row_price m i here, row_price m j there)))
    (λ h. inr (omega (arith, row_price m i here, row_price m j there, h.0), h.1)) ahead in
    lump_at rs i ∙ (t.full i j rows (omega (arith, lump_at rs j))).1 ∙ row_cap m i here

-- the lumps of a grant go in turn, under any allowance
pub grant_in_turn : (a : Allowance) (bs : List Benefit) → InTurn bs (grant a bs)
unfolding grant
grant_in_turn a bs =
    turned_order
    (turns_over (Turned bs) (λ rs left b found t. turned_next found t) (length bs) (map row_of bs) (priced_limit bs) a
    (omega (arith, waits_start bs)) (turned_start a bs)).holds
