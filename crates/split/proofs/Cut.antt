-- The grant under an allowance is the grant without one, cut at one pension. The two take their turns side by side: while the
-- allowance is enough they give the same, the turn at which it is not gives what is left of it, and later ones give nothing.
-- Assumes nothing.
use Prim.Native.Nat.{ℕ, zero, suc, ◌+◌, ◌-◌, ◌*◌, ◌≤◌, ◌<◌}
use mathlib.Core.Bool.{true, false, cond, ◌&&◌, ◌||◌, true≢false}
use mathlib.Core.List.{List, [], ◌∷◌, map}
use mathlib.Core.Path.{◌≡◌, refl, sym, ◌∙◌, ap}
use native.Mathlib.Decide.{dec_lt}
use native.Mathlib.Numerals.{add-one}
use native.Mathlib.Omega.{arith}
use native.Nat.{ℕᴺ_discrete}
use lib.Dec.{leb, eqb}
use lib.ListN.{length}
use lib.Seq.{get_or-set_same, get_or-set_other}
use borrow.Author.Tests.{lt-ltb}
use Rattle.calendar.specs.Sums.{sum_of}
use Rattle.calendar.proofs.TestsLaws.{not_true_false}
use Rattle.split.specs.Allowance.{Allowance}
use Rattle.split.specs.declared.limits.Benefit.{Benefit}
use Rattle.split.specs.Allowance.{no_allowance, allowed, after_lump}
use Rattle.split.specs.Limits.{priced_limit}
use Rattle.split.specs.Grant.{Row, no_row, row_of, served, cheapest, most, next_lump, next_left, next_allowance, turns, row_at, serve}
use Rattle.split.proofs.AllowanceLaws.{allowed_at_most, allowed_keeps, allowed_kept, allowed_short}
use Rattle.split.proofs.Rows.{Lowest, cheapest_lowest}
use Rattle.split.proofs.Served.{lump_of, wait_of, waits_start, waits_serve}
use Rattle.split.proofs.Level.{State, state_start}
use Rattle.split.proofs.Turns.{AllTaken, state_turn, turns_over}

-- rows with the same prices, of which the same wait
data Alike : List Row → List Row → Type 0 where
  none : Alike [] []
  more : {r s : Row} {rs ss : List Row} → r.price ≡ s.price → r.waiting ≡ s.waiting → Alike rs ss → Alike (r ∷ rs) (s ∷ ss)

alike_same : (rs : List Row) → Alike rs rs
alike_same [] = none
alike_same (r ∷ rs) = more refl refl (alike_same rs)

alike_serve : {rs ss : List Row} (i g k : ℕ) → Alike rs ss → Alike (serve rs i g) (serve ss i k)
alike_serve i g k none = none
alike_serve zero g k (more p w rest) = more p refl rest
alike_serve (suc i) g k (more p w rest) = more p w (alike_serve i g k rest)

alike_length : {rs ss : List Row} → Alike rs ss → length rs ≡ length ss
alike_length none = refl
alike_length (more p w rest) = ap suc (alike_length rest)

alike_price : {rs ss : List Row} → Alike rs ss → (j : ℕ) → (row_at rs j).price ≡ (row_at ss j).price
alike_price none j = refl
alike_price (more p w rest) zero = p
alike_price (more p w rest) (suc j) = alike_price rest j

alike_waits : {rs ss : List Row} → Alike rs ss → sum_of wait_of rs ≡ sum_of wait_of ss
alike_waits none = refl
alike_waits (more p w rest) = λ i. cond (w i) 1 0 + alike_waits rest i

-- so their turns are in the same order
alike_cheapest : {rs ss : List Row} → Alike rs ss → cheapest rs ≡ cheapest ss
unfolding cheapest
alike_cheapest none = refl
alike_cheapest (more {rs = rs} {ss = ss} p w rest) =
    let c = alike_cheapest rest in
    let q : (row_at rs (cheapest rs)).price ≡ (row_at ss (cheapest ss)).price =
    alike_price rest (cheapest rs) ∙ ap (λ (k : ℕ). (row_at ss k).price) c
    in λ i. cond (w i && (eqb (c i) (alike_length rest i) || leb (p i) (q i))) 0 (suc (c i))

-- a row is served: it alone changes, and no price does
row_here : (rs : List Row) (i g : ℕ) → i < length rs → row_at (serve rs i g) i ≡ served (row_at rs i) g
row_here rs i g place = get_or-set_same rs i (served (row_at rs i) g) no_row place

row_other : (rs : List Row) (i j g : ℕ) → (j ≡ i → ⊥) → row_at (serve rs i g) j ≡ row_at rs j
row_other rs i j g other = get_or-set_other rs i j (served (row_at rs i) g) no_row other

price_stays : (rs : List Row) (i g j : ℕ) → (row_at (serve rs i g) j).price ≡ (row_at rs j).price
price_stays [] i g j = refl
price_stays (r ∷ rs) zero g zero = refl
price_stays (r ∷ rs) zero g (suc j) = refl
price_stays (r ∷ rs) (suc i) g zero = refl
price_stays (r ∷ rs) (suc i) g (suc j) = price_stays rs i g j

-- Lumps of rows that are those of others, cut at a place: there they are no more, cheaper rows have as much, dearer ones nothing,
-- and every other row has as much or nothing.
pub record CutAt (fs rs : List Row) (place : ℕ) : Type 0 where
  pub less : lump_of (row_at rs place) ≤ lump_of (row_at fs place)
  pub cheaper : (j : ℕ) → (row_at rs j).price < (row_at rs place).price → lump_of (row_at rs j) ≡ lump_of (row_at fs j)
  pub dearer : (j : ℕ) → (row_at rs place).price < (row_at rs j).price → lump_of (row_at rs j) ≡ 0
  pub others : (j : ℕ) → (j ≡ place → ⊥) → 0 < lump_of (row_at rs j) → lump_of (row_at rs j) ≡ lump_of (row_at fs j)

-- between turns the cheaper rows have had theirs
record CutBy (fs rs : List Row) (place : ℕ) : Type 0 where
  cut : CutAt fs rs place
  past : (j : ℕ) → (row_at rs j).price < (row_at rs place).price → (row_at rs j).waiting ≡ false

-- the turn at which the allowance is not enough: of equal rows the one whose turn it is gets less than the other
cut_here : {bs : List Benefit} {floor left : ℕ} (fs : List Row) (i g k : ℕ) → i < length fs → Lowest fs i → g ≤ k → State bs floor fs left
    → CutBy (serve fs i k) (serve fs i g) i
cut_here fs i g k place lowest less state = record {
  cut = record {
    less = rw (row_here fs i g place, row_here fs i k place) less;
    cheaper = λ j h. same j (λ e. omega (arith, at e));
    dearer = λ j h.
        ap lump_of (row_other fs i j g (λ e. omega (arith, at e)))
        ∙ (state.fair j).dearer (omega (arith, price j, price i, (state.fair i).ahead (lowest.waits place)));
    others = λ j other h. same j other;
  };
  past = λ j h.
      ap (λ (r : Row). r.waiting) (row_other fs i j g (λ e. omega (arith, at e)))
      ∙ not_true_false _ (λ w. omega (arith, price j, price i, lowest.least j w));
}
  where
    price : (j : ℕ) → (row_at (serve fs i g) j).price ≡ (row_at fs j).price
    price j = price_stays fs i g j

    -- a row with another price is another row
    at : {j : ℕ} → j ≡ i → (row_at (serve fs i g) j).price ≡ (row_at (serve fs i g) i).price
    at e = ap (λ (n : ℕ). (row_at (serve fs i g) n).price) e

    same : (j : ℕ) → (j ≡ i → ⊥) → lump_of (row_at (serve fs i g) j) ≡ lump_of (row_at (serve fs i k) j)
    same j other = ap lump_of (row_other fs i j g other ∙ sym (row_other fs i j k other))

-- a later turn gives nothing
cut_later : {fs rs : List Row} {place : ℕ} (i k : ℕ) → i < length rs → (row_at rs i).waiting ≡ true → CutBy fs rs place
    → CutBy (serve fs i k) (serve rs i 0) place
cut_later {fs} {rs} {place} i k inside waits c = record {
  cut = record {
    less = elim (ℕᴺ_discrete place i) [
      | yes e ↦ rw (lump place e) (omega arith)
      | no other ↦ rw (row_other rs i place 0 other, row_other fs i place k other) c.cut.less
    ];
    cheaper = λ j h.
        let old : (row_at rs j).price < (row_at rs place).price = omega (arith, price j, price place) in
        same j (served-not j (c.past j old)) (c.cut.cheaper j old);
    dearer = λ j h.
        elim (ℕᴺ_discrete j i) [
          | yes e ↦ lump j e
          | no other ↦ ap lump_of (row_other rs i j 0 other) ∙ c.cut.dearer j (omega (arith, price j, price place))
        ];
    others = λ j other h.
        elim (ℕᴺ_discrete j i) [
          | yes e ↦ absurd (omega (arith, lump j e))
          | no away ↦ same j away (c.cut.others j other (rw (row_other rs i j 0 away) at h))
        ];
  };
  past = λ j h.
      let old = c.past j (omega (arith, price j, price place)) in
      ap (λ (r : Row). r.waiting) (row_other rs i j 0 (served-not j old)) ∙ old;
}
  where
    price : (j : ℕ) → (row_at (serve rs i 0) j).price ≡ (row_at rs j).price
    price j = price_stays rs i 0 j

    lump : (j : ℕ) → j ≡ i → lump_of (row_at (serve rs i 0) j) ≡ 0
    lump j e = rw e (ap lump_of (row_here rs i 0 inside))

    -- a row that has had its turn is not the one whose turn it is
    served-not : (j : ℕ) → (row_at rs j).waiting ≡ false → j ≡ i → ⊥
    served-not j w e = true≢false (sym waits ∙ (ap (λ (n : ℕ). (row_at rs n).waiting) (sym e) ∙ w))

    same : (j : ℕ) → (j ≡ i → ⊥) → lump_of (row_at rs j) ≡ lump_of (row_at fs j)
        → lump_of (row_at (serve rs i 0) j) ≡ lump_of (row_at (serve fs i k) j)
    same j other e = ap lump_of (row_other rs i j 0 other) ∙ e ∙ ap lump_of (sym (row_other fs i j k other))

-- The rows of the grant without an allowance beside those of the grant under one: the same so far, or cut at a place, and then
-- nothing of the allowance is left.
data Phase (fs rs : List Row) (rest left : ℕ) (a : Allowance) : Type 0 where
  same : rs ≡ fs → left ≡ rest → Phase fs rs rest left a
  after : (place : ℕ) → CutBy fs rs place → a.applies ≡ true → a.left.0 ≡ 0 → Phase fs rs rest left a

-- a turn of both, in which the one without an allowance gives the most
phase_next : {bs : List Benefit} {floor : ℕ} {fs rs : List Row} {rest left : ℕ} {a : Allowance} → State bs floor fs rest
    → cheapest rs < length rs → cheapest rs ≡ cheapest fs → Phase fs rs rest left a
    → let r = row_at fs (cheapest fs) in
    Phase (serve fs (cheapest fs) (most r rest)) (serve rs (cheapest rs) (next_lump rs left a)) (rest - most r rest * r.price)
    (next_left rs left a) (next_allowance rs left a)
unfolding after_lump
phase_next {fs = fs} {rs = rs} {rest = rest} {left = left} {a = a} state found order (same e l) =
    rw (e, l) (go (dec_lt (allowed a m) m))
  where
    m : ℕ
    m = most (row_at fs (cheapest fs)) rest

    inside : cheapest fs < length fs
    inside = rw e at found

    go : Dec (allowed a m < m)
        → Phase (serve fs (cheapest fs) m) (serve fs (cheapest fs) (allowed a m)) (rest - m * (row_at fs (cheapest fs)).price)
        (rest - allowed a m * (row_at fs (cheapest fs)).price) (after_lump a (allowed a m))
    go (no enough) =
        let all : allowed a m ≡ m = omega (arith, allowed_at_most a m) in
        same (ap (serve fs (cheapest fs)) all) (ap (λ (g : ℕ). rest - g * (row_at fs (cheapest fs)).price) all)
    go (yes short) =
        let cut = allowed_short a m short in
        after (cheapest fs) (cut_here fs (cheapest fs) (allowed a m) m inside (cheapest_lowest fs) (omega arith) state) cut.0
        (omega (arith, cut.1))
phase_next {fs = fs} {rs = rs} {rest = rest} {left = left} {a = a} state found order (after place c applies spent) =
    let nothing : next_lump rs left a ≡ 0 = omega (arith, allowed_keeps a (most (row_at rs (cheapest rs)) left) applies) in
    after place (rw (← order, nothing) (cut_later (cheapest rs) _ found ((cheapest_lowest rs).waits found) c)) applies (omega arith)

-- the grant without an allowance, as far as it has gone when the other has gone as far, and what it ends with
record Beside (bs : List Benefit) (final rs : List Row) (left : ℕ) (a : Allowance) : Type 0 where
  free : List Row
  rest : ℕ
  unlimited : Allowance
  off : unlimited.applies ≡ false
  goes : turns (sum_of wait_of free) free rest unlimited ≡ final
  state : State bs 3000000000 free rest
  alike : Alike rs free
  phase : Phase free rs rest left a

-- a turn without an allowance gives the most
turn_free : (fs : List Row) (rest : ℕ) (u : Allowance) → u.applies ≡ false → cheapest fs < length fs
    → let m = most (row_at fs (cheapest fs)) rest in
    turns (sum_of wait_of fs) fs rest u
    ≡ turns (sum_of wait_of (serve fs (cheapest fs) m)) (serve fs (cheapest fs) m) (rest - m * (row_at fs (cheapest fs)).price) (after_lump u m)
unfolding turns
turn_free fs rest u off inside =
    let m = most (row_at fs (cheapest fs)) rest in
    let count = sym (waits_serve fs (cheapest fs) m inside ((cheapest_lowest fs).waits inside)) ∙ add-one _ in
    ap (λ (n : ℕ). turns n fs rest u) count
    ∙ rw (lt-ltb (cheapest fs) (length fs) inside, allowed_kept u m (λ e. absurd (true≢false (sym e ∙ off))))

beside_next : {bs : List Benefit} {final rs : List Row} {left : ℕ} {a : Allowance} → cheapest rs < length rs → Beside bs final rs left a
    → Beside bs final (serve rs (cheapest rs) (next_lump rs left a)) (next_left rs left a) (next_allowance rs left a)
unfolding after_lump
beside_next {rs = rs} {left = left} {a = a} found b = record {
  free = serve fs (cheapest fs) (most (row_at fs (cheapest fs)) b.rest);
  rest = b.rest - most (row_at fs (cheapest fs)) b.rest * (row_at fs (cheapest fs)).price;
  unlimited = after_lump b.unlimited (most (row_at fs (cheapest fs)) b.rest);
  off = b.off;
  goes = sym (turn_free fs b.rest b.unlimited b.off inside) ∙ b.goes;
  state = state_turn (omega arith) inside b.state;
  alike = rw (← order) (alike_serve (cheapest rs) (next_lump rs left a) _ b.alike);
  phase = phase_next b.state found order b.phase;
}
  where
    fs : List Row
    fs = b.free

    order : cheapest rs ≡ cheapest fs
    order = alike_cheapest b.alike

    inside : cheapest fs < length fs
    inside = omega (arith, order, alike_length b.alike)

-- where no row waits none is counted
waits_none : (rs : List Row) → ((j : ℕ) → (row_at rs j).waiting ≡ true → ⊥) → sum_of wait_of rs ≡ 0
waits_none [] idle = refl
waits_none (r ∷ rs) idle = rw (not_true_false r.waiting (idle 0)) (omega (arith, waits_none rs (λ j. idle (suc j))))

-- How the rows of the grant under an allowance come from those of the grant without one: they are the same, or cut at a place.
pub data CutFrom (fs rs : List Row) : Type 0 where
  whole : rs ≡ fs → CutFrom fs rs
  cut : (place : ℕ) → CutAt fs rs place → CutFrom fs rs

beside_end : {bs : List Benefit} {final rs : List Row} → AllTaken (Beside bs final) rs → CutFrom final rs
unfolding turns
beside_end {bs} {final} {rs} all = go b.phase
  where
    b : Beside bs final rs all.left all.rest
    b = all.holds

    ended : b.free ≡ final
    ended = sym (ap (λ (n : ℕ). turns n b.free b.rest b.unlimited) (sym (alike_waits b.alike) ∙ waits_none rs all.idle)) ∙ b.goes

    go : Phase b.free rs b.rest all.left all.rest → CutFrom final rs
    go (same e l) = whole (e ∙ ended)
    go (after place c applies spent) = cut place (rw (← ended) c.cut)

pub grant_cut : (a : Allowance) (bs : List Benefit)
    → CutFrom (turns (length bs) (map row_of bs) (priced_limit bs) no_allowance) (turns (length bs) (map row_of bs) (priced_limit bs) a)
grant_cut a bs =
    beside_end
    (turns_over (Beside bs _) (λ rs left b found t. beside_next found t) (length bs) (map row_of bs) (priced_limit bs) a
    (omega (arith, waits_start bs))
    (record {
      free = map row_of bs;
      rest = priced_limit bs;
      unlimited = no_allowance;
      off = refl;
      goes = ap (λ (n : ℕ). turns n (map row_of bs) (priced_limit bs) no_allowance) (waits_start bs);
      state = state_start bs;
      alike = alike_same (map row_of bs);
      phase = same refl refl;
    }))
