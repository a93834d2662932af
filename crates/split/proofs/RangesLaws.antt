-- The figures of an accepted case are in the ranges that keep the arithmetic within its types. A cap is at most a quarter's
-- lump, so that a lump gives up no more than the pension. Assumes nothing.
use Prim.Native.Nat.{ℕ, ◌*◌, ◌/◌, ◌≤◌, ◌<◌}
use mathlib.Core.Bool.{Bool, true, false, cond}
use mathlib.Core.List.{List, map}
use mathlib.Core.Path.{◌≡◌, sym, ◌∙◌, ap}
use native.Mathlib.Nat.{div-le_of_le-mul, le-div_iff_mul-le}
use native.Mathlib.Omega.{arith}
use lib.Dec.{eqb}
use lib.ListN.{length, get_or, length-map}
use Rattle.std.specs.Prelude.{All}
use Rattle.std.proofs.lemmas.List.{get_or-map}
use Rattle.calendar.proofs.SumsLaws.{sum_at}
use Rattle.split.specs.Allowance.{Allowance}
use Rattle.split.specs.declared.case.Head.{Head}
use Rattle.split.specs.declared.case.Pension.{Pension}
use Rattle.split.specs.declared.limits.Benefit.{Benefit}
use Rattle.split.specs.declared.limits.PensionRow.{PensionRow}
use Rattle.split.specs.Case.{no_pension}
use Rattle.split.specs.Refusal.{age_of, unlisted}
use Rattle.split.specs.Benefits.{worked_pension, factor_of, limited_lump, quarter_lump, benefit_of, benefits_of}
use Rattle.split.specs.Limits.{no_benefit, total, WithinCaps}
use Rattle.split.specs.Grant.{Row, lumps_of, grant}
use Rattle.split.specs.Ranges.{LumpRange, ShareRange}
use Rattle.split.specs.Working.{multiple_factor, increase_of, no_row, row_of, row_in, before_turn}
use Rattle.split.proofs.Prices.{ring}
use Rattle.split.proofs.Turns.{grant_capped}
use Rattle.split.proofs.LimitsLaws.{total_capped, caps_at}
use Rattle.split.proofs.Accepted.{AcceptedPension, Accepted, factor_range, increase_small, accepted_caps}
use Rattle.split.proofs.BenefitsLaws.{cap_quarter}
use Rattle.split.proofs.WorkingLaws.{worked_range, given_up_worked, pension_worked, multiple_worked, increase_worked}

-- a lump of at most a quarter's gives up at most the pension
quarter_given_up : (lump pension top bottom : ℕ) → 0 < bottom → lump ≤ pension * top / (4 * bottom)
    → lump * bottom / top ≤ pension
quarter_given_up lump pension top bottom positive h =
    let whole : 0 < 4 * bottom = omega arith in
    div-le_of_le-mul top
    (simp ring (omega (arith, simp ring at ((le-div_iff_mul-le {x = lump} {y = pension * top} whole).0 h))))

given_up_at_most : (h : Head) (p : Pension) → AcceptedPension h p → (lump : ℕ) → lump ≤ (benefit_of h p).cap.0
    → lump * (factor_of (age_of h) p).bottom / (factor_of (age_of h) p).top ≤ worked_pension h p
unfolding benefit_of quarter_lump
given_up_at_most h p a lump capped =
    let e = factor_of (age_of h) p in
    quarter_given_up lump (worked_pension h p) e.top e.bottom (factor_range h p a).bottom_positive
    (omega (arith, cap_quarter (limited_lump p) (worked_pension h p) e))

-- the figures of an accepted pension are in range
lump_range : (h : Head) (p : Pension) → AcceptedPension h p → (lump : ℕ) → lump ≤ 1000000000
    → lump ≤ (benefit_of h p).cap.0 → LumpRange (worked_pension h p) (multiple_factor h p) lump
lump_range h p a lump high capped =
    record {
      factor = worked_range h p (factor_range h p a);
      lump_high = high;
      given_up = rw (given_up_worked h p lump) (given_up_at_most h p a lump capped);
    }

-- and so is the increase of its second instalment
second_small : (p : Pension) → unlisted p ≡ false → increase_of p ≤ 10000
unfolding increase_of
second_small p listed = go (eqb p.kind 2)
  where
    go : (second : Bool) → cond second p.terms.increase 0 ≤ 10000
    go true = increase_small p listed
    go false = omega arith

-- an accepted case, and the lumps granted
module _ (allowance : Allowance) (h : Head) (ps : List Pension) (a : Accepted h ps) (xs : List ℕ)
    (granted : xs ≡ grant allowance (benefits_of h ps)) where
  within_caps : WithinCaps (benefits_of h ps) xs
  within_caps = rw granted (grant_capped allowance (benefits_of h ps))

  pub lumps_small : total xs ≤ 1000000000
  lumps_small = omega (arith, total_capped (benefits_of h ps) xs within_caps, accepted_caps h ps a)

  capped_at : (j : ℕ) → j < length ps → get_or xs j 0 ≤ (benefit_of h (get_or ps j no_pension)).cap.0
  capped_at j place =
      rw (← get_or-map (benefit_of h) ps j no_pension no_benefit place) (caps_at (benefits_of h ps) xs within_caps j)

  cap_small : (j : ℕ) → j < length ps → (benefit_of h (get_or ps j no_pension)).cap.0 ≤ 1000000000
  cap_small j place =
      let inside : j < length (benefits_of h ps) = rw (length-map) place in
      rw (← get_or-map (benefit_of h) ps j no_pension no_benefit place)
      (omega (arith, sum_at (λ (b : Benefit). b.cap.0) (benefits_of h ps) no_benefit j inside, accepted_caps h ps a))

  range_at : (j : ℕ) → j < length ps
      → LumpRange (worked_pension h (get_or ps j no_pension)) (multiple_factor h (get_or ps j no_pension)) (get_or xs j 0)
  range_at j place =
      lump_range h (get_or ps j no_pension) (a.each j place) (get_or xs j 0) (omega (arith, capped_at j place, cap_small j place))
      (capped_at j place)

-- rows of the pensions, with those lumps
pub shares_range : (allowance : Allowance) (h : Head) (ps : List Pension) (rows : List PensionRow) → Accepted h ps
    → map before_turn rows ≡ map (row_of h) ps → lumps_of (map row_in rows) ≡ grant allowance (benefits_of h ps)
    → All ShareRange rows
shares_range allowance h ps rows a kept granted j d place =
    let p = get_or ps j no_pension in
    let r = get_or rows j d in
    let counted : length rows ≡ length ps = sym (length-map rows before_turn) ∙ ap length kept ∙ length-map ps (row_of h) in
    let inside : j < length ps = omega arith in
    let same : before_turn r ≡ row_of h p =
    sym (get_or-map before_turn rows j d no_row place)
    ∙ ap (λ (l : List PensionRow). get_or l j no_row) kept
    ∙ get_or-map (row_of h) ps j no_pension no_row inside
    in
    let lump : get_or (lumps_of (map row_in rows)) j 0 ≡ r.lump.0 =
    get_or-map (λ (x : Row). x.lump.0) (map row_in rows) j (row_in d) 0 (rw (length-map rows row_in) place)
    ∙ ap (λ (x : Row). x.lump.0) (get_or-map row_in rows j d (row_in d) place)
    in
    record {
      lump =
          rw (pension_worked h p r same, multiple_worked h p r same, ← lump)
          (range_at allowance h ps a (lumps_of (map row_in rows)) granted j inside);
      increase = rw (increase_worked h p r same) (second_small p (a.each j inside).listed);
    }
