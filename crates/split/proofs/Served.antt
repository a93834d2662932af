-- What serving a row keeps, whatever amount it is given within its cap and what is left: rows and pensions match, what
-- was paid and what is left make the priced limit, every lump is within its cap, and one row fewer waits.
-- Assumes nothing.
use Prim.Native.Nat.{ℕ, zero, suc, ◌+◌, ◌-◌, ◌*◌, ◌≤◌, ◌<◌}
use mathlib.Core.Bool.{true, cond, false≢true}
use mathlib.Core.List.{List, [], ◌∷◌, map}
use mathlib.Core.Path.{◌≡◌, refl}
use native.Mathlib.Nat
use native.Mathlib.Omega.{arith}
use lib.ListN.{length}
use lib.Seq.{get_or-set_same, get_or-set_other}
use Rattle.calendar.specs.Sums.{sum_of}
use Rattle.split.specs.declared.limits.Benefit.{Benefit}
use Rattle.split.specs.Limits.{total, price_of, WithinCaps, priced_limit}
use Rattle.split.specs.Grant.{Row, no_row, row_of, served, row_at, serve, lumps_of}
use Rattle.split.proofs.Rows.{sum_set, every_set, every_start}

-- rows with the prices and caps of pensions
pub data Matches : List Benefit → List Row → Type 0 where
  none : Matches [] []
  more : {b : Benefit} {bs : List Benefit} {r : Row} {rs : List Row} → r.price ≡ price_of b.factor → r.cap.0 ≡ b.cap.0
      → Matches bs rs → Matches (b ∷ bs) (r ∷ rs)

matches_start : (bs : List Benefit) → Matches bs (map row_of bs)
matches_start [] = none
matches_start (b ∷ bs) = more refl refl (matches_start bs)

matches_serve : {bs : List Benefit} {rs : List Row} (i g : ℕ) → Matches bs rs → Matches bs (serve rs i g)
matches_serve i g none = none
matches_serve zero g (more price cap rest) = more price cap rest
matches_serve (suc i) g (more price cap rest) = more price cap (matches_serve i g rest)

-- a row is served: it alone changes, and no price does
pub row_here : (rs : List Row) (i g : ℕ) → i < length rs → row_at (serve rs i g) i ≡ served (row_at rs i) g
row_here rs i g place = get_or-set_same rs i (served (row_at rs i) g) no_row place

pub row_other : (rs : List Row) (i j g : ℕ) → (j ≡ i → ⊥) → row_at (serve rs i g) j ≡ row_at rs j
row_other rs i j g other = get_or-set_other rs i j (served (row_at rs i) g) no_row other

pub price_stays : (rs : List Row) (i g j : ℕ) → (row_at (serve rs i g) j).price ≡ (row_at rs j).price
price_stays [] i g j = refl
price_stays (r ∷ rs) zero g zero = refl
price_stays (r ∷ rs) zero g (suc j) = refl
price_stays (r ∷ rs) (suc i) g zero = refl
price_stays (r ∷ rs) (suc i) g (suc j) = price_stays rs i g j

-- the lump of a row, and what it costs
abbrev pub lump_of : Row → ℕ
lump_of r = r.lump.0

abbrev pub paid : Row → ℕ
paid r = lump_of r * r.price

-- the lumps together
pub lumps_total : (rs : List Row) → total (lumps_of rs) ≡ sum_of lump_of rs
lumps_total [] = refl
lumps_total (r ∷ rs) = omega (arith, lumps_total rs)

pub nothing_granted : (bs : List Benefit) → sum_of lump_of (map row_of bs) ≡ 0
nothing_granted [] = refl
nothing_granted (b ∷ bs) = omega (arith, nothing_granted bs)

nothing_paid : (bs : List Benefit) → sum_of paid (map row_of bs) ≡ 0
nothing_paid [] = refl
nothing_paid (b ∷ bs) = omega (arith, nothing_paid bs, Nat.zero-mul (price_of b.factor))

-- lumps within the rows' caps are a split within the pensions' caps
pub lumps_capped : {bs : List Benefit} {rs : List Row} → Matches bs rs → ((j : ℕ) → (row_at rs j).lump.0 ≤ (row_at rs j).cap.0)
    → WithinCaps bs (lumps_of rs)
lumps_capped none capped = tt
lumps_capped (more price cap rest) capped = (omega (arith, capped 0), lumps_capped rest (λ j. capped (suc j)))

-- what holds between turns, with what is left of the priced limit
pub record Run (bs : List Benefit) (rs : List Row) (left : ℕ) : Type 0 where
  pub matches : Matches bs rs
  pub spent : sum_of paid rs + left ≡ priced_limit bs
  pub capped : (j : ℕ) → (row_at rs j).lump.0 ≤ (row_at rs j).cap.0
  pub unserved : (j : ℕ) → (row_at rs j).waiting ≡ true → (row_at rs j).lump.0 ≡ 0

pub run_start : (bs : List Benefit) → Run bs (map row_of bs) (priced_limit bs)
run_start bs = record {
  matches = matches_start bs;
  spent = omega (arith, nothing_paid bs);
  capped = every_start (λ r. r.lump.0 ≤ r.cap.0) bs (omega arith) (λ b. omega arith);
  unserved = every_start (λ r. r.waiting ≡ true → r.lump.0 ≡ 0) bs (λ w. refl) (λ b w. refl);
}

-- a waiting row is given g, any amount that its cap and what is left allow
pub run_serve : {bs : List Benefit} {rs : List Row} {left : ℕ} (i g : ℕ) → i < length rs → (row_at rs i).waiting ≡ true
    → g ≤ (row_at rs i).cap.0 → g * (row_at rs i).price ≤ left → Run bs rs left
    → Run bs (serve rs i g) (left - g * (row_at rs i).price)
run_serve {rs} i g place w fits affordable run = record {
  matches = matches_serve i g run.matches;
  spent = omega (arith, sum_set paid rs i (served (row_at rs i) g) place, unpaid);
  capped = every_set (λ r. r.lump.0 ≤ r.cap.0) rs i _ fits run.capped;
  unserved = every_set (λ r. r.waiting ≡ true → r.lump.0 ≡ 0) rs i _ (λ v. absurd (false≢true v)) run.unserved;
}
  where
    unpaid : (row_at rs i).lump.0 * (row_at rs i).price ≡ 0
    unpaid = rw (run.unserved i w) (Nat.zero-mul (row_at rs i).price)

-- one for a row that waits
abbrev pub wait_of : Row → ℕ
wait_of r = cond r.waiting 1 0

-- all wait at the start
pub waits_start : (bs : List Benefit) → sum_of wait_of (map row_of bs) ≡ length bs
waits_start [] = refl
waits_start (b ∷ bs) = omega (arith, waits_start bs)

-- a row that waits is counted
pub waits_counted : (rs : List Row) (j : ℕ) → (row_at rs j).waiting ≡ true → 1 ≤ sum_of wait_of rs
waits_counted [] j w = absurd (false≢true w)
waits_counted (r ∷ rs) zero w = rw w (omega arith)
waits_counted (r ∷ rs) (suc j) w = omega (arith, waits_counted rs j w)

-- and no longer when it has been served
pub waits_serve : (rs : List Row) (i g : ℕ) → i < length rs → (row_at rs i).waiting ≡ true
    → sum_of wait_of (serve rs i g) + 1 ≡ sum_of wait_of rs
waits_serve rs i g place w = omega (arith, rw w at (sum_set wait_of rs i (served (row_at rs i) g) place))
