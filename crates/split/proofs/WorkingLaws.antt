-- Laws of the figures as the code works them out: they are those of the definitions, since a multiple of a factor gives the
-- same cap, price and pension given up; so the row of a pension, and the share made of it, are those of the pension. Assumes
-- nothing.
use Prim.Native.Nat.{ℕ, ◌*◌, ◌/◌, ◌≤◌, ◌<◌}
use mathlib.Core.Bool.{Bool, true, false, cond, ◌&&◌}
use mathlib.Core.Path.{◌≡◌, refl, ◌∙◌, ap}
use native.Mathlib.Nat.{mul-div_cancel, le_of_lt}
use native.Mathlib.Omega.{arith}
use lib.Dec.{ltb, eqb}
use borrow.Author.Tests.{lt-ltb, le-ltb}
use Rattle.calendar.specs.Calendar.{months, sixtieth_birthday}
use Rattle.factors.specs.declared.effective.Factor.{Factor}
use Rattle.factors.specs.declared.effective.FactorTerms.{FactorTerms}
use Rattle.factors.specs.declared.money.LumpPence.{LumpPence}
use Rattle.factors.specs.declared.money.YearlyPence.{YearlyPence}
use Rattle.factors.specs.EarlyPayment.{early_payment_factor, reduced_pension}
use Rattle.factors.specs.Effective.{FactorRange, effective_factor, multiplier, multiple}
use Rattle.factors.proofs.EarlyPaymentLaws.{early_payment_below}
use Rattle.factors.proofs.EffectiveLaws.{multiplier_positive, multiple_range}
use Rattle.split.specs.declared.case.Head.{Head}
use Rattle.split.specs.declared.case.Pension.{Pension}
use Rattle.split.specs.declared.limits.Benefit.{Benefit}
use Rattle.split.specs.declared.limits.PensionRow.{PensionRow}
use Rattle.split.specs.Refusal.{age_of}
use Rattle.split.specs.Benefits.{worked_pension, factor_of, worked_terms, limited_lump, cap_of, benefit_of}
use Rattle.split.specs.Limits.{price_of}
use Rattle.split.specs.Quote.{remaining_of, second_of, share_of}
use Rattle.split.specs.Working.{paid_thousandths, multiple_factor, multiple_benefit, increase_of, row_of, before_turn, share_in}
use Rattle.split.proofs.MultipleLaws.{quarter_multiple, price_multiple, given_up_multiple}

-- the thousandths that are paid, before age 60 and from then on
pub paid_early : (h : Head) (age left r : ℕ) → age ≡ age_of h → age < 720
    → left ≡ months h.commencement (sixtieth_birthday h.birth) → r ≡ early_payment_factor left → r ≡ paid_thousandths h
unfolding paid_thousandths
paid_early h age left r a young m e = rw (← a, lt-ltb age 720 young, ← m) e

pub paid_whole : (h : Head) (age : ℕ) → age ≡ age_of h → 720 ≤ age → 1000 ≡ paid_thousandths h
unfolding paid_thousandths
paid_whole h age a old = rw (← a, le-ltb age 720 old)

-- at most all thousandths are paid
pub paid_at_most : (h : Head) → paid_thousandths h ≤ 1000
unfolding paid_thousandths
paid_at_most h = go (ltb (age_of h) 720)
  where
    left : ℕ
    left = months h.commencement (sixtieth_birthday h.birth)

    go : (early : Bool) → cond early (early_payment_factor left) 1000 ≤ 1000
    go true = le_of_lt (early_payment_below left)
    go false = omega arith

-- the part that is paid is the pension of the definition
pub worked_paid : (h : Head) (p : Pension) (part r : ℕ) → part ≡ cond (eqb p.kind 3) (paid_thousandths h) 1000
    → r ≡ p.stated.0 * part / 1000 → r ≡ worked_pension h p
unfolding worked_pension paid_thousandths reduced_pension
worked_paid h p part r chosen made = made ∙ rw chosen (go (eqb p.kind 3) (ltb (age_of h) 720))
  where
    whole : p.stated.0 * 1000 / 1000 ≡ p.stated.0
    whole = mul-div_cancel p.stated.0 (omega arith)

    early : ℕ
    early = early_payment_factor (months h.commencement (sixtieth_birthday h.birth))

    go : (third young : Bool)
        → p.stated.0 * cond third (cond young early 1000) 1000 / 1000
        ≡ cond (third && young) (p.stated.0 * early / 1000) p.stated.0
    go true true = refl
    go true false = whole
    go false young = whole

-- the cap by a multiple of the factor
pub cap_multiple : (limited : Bool) (m pension : ℕ) (e : Factor) → 0 < m → cap_of limited pension (multiple m e) ≡ cap_of limited pension e
unfolding cap_of
cap_multiple limited m pension e positive = rw (quarter_multiple m pension e positive)

-- the factor of worked terms
pub factor_worked : (h : Head) (p : Pension) (t : FactorTerms) (e : Factor) → t ≡ worked_terms (age_of h) p.terms
    → e ≡ multiple (multiplier p.kind) (effective_factor p.kind t) → e ≡ multiple_factor h p
unfolding multiple_factor factor_of
factor_worked h p t e made worked =
    worked ∙ ap (λ (x : FactorTerms). multiple (multiplier p.kind) (effective_factor p.kind x)) made

-- a pension as the limits see it, of its parts
pub benefit_worked : (h : Head) (p : Pension) (pension : YearlyPence) (e : Factor) (limited : Bool) (cap : LumpPence)
    → pension.0 ≡ worked_pension h p → e ≡ multiple_factor h p → limited ≡ limited_lump p → cap.0 ≡ cap_of limited pension.0 e
    → ◌≡◌ {A = Benefit} (record { pension = pension; factor = e; cap = cap }) (multiple_benefit h p)
unfolding multiple_benefit benefit_of multiple_factor
benefit_worked h p pension e limited cap x y l z =
    let capped : cap.0 ≡ cap_of (limited_lump p) (worked_pension h p) (factor_of (age_of h) p) =
    rw (l, x, y) at z
    ∙ cap_multiple (limited_lump p) (multiplier p.kind) (worked_pension h p) (factor_of (age_of h) p) (multiplier_positive p.kind)
    in
    λ i. record { pension = record { 0 = x i }; factor = y i; cap = record { 0 = capped i } }

-- the price by the factor of a pension as the code has it
pub price_worked : (h : Head) (p : Pension) → FactorRange (factor_of (age_of h) p)
    → price_of (multiple_factor h p) ≡ price_of (factor_of (age_of h) p)
unfolding multiple_factor
price_worked h p range = price_multiple (multiplier p.kind) (factor_of (age_of h) p) (multiplier_positive p.kind) range.top_positive

-- whose range is that of a factor
pub worked_range : (h : Head) (p : Pension) → FactorRange (factor_of (age_of h) p) → FactorRange (multiple_factor h p)
unfolding multiple_factor factor_of
worked_range h p range = multiple_range p.kind (worked_terms (age_of h) p.terms) range

-- what a lump gives up
pub given_up_worked : (h : Head) (p : Pension) (lump : ℕ)
    → lump * (multiple_factor h p).bottom / (multiple_factor h p).top
    ≡ lump * (factor_of (age_of h) p).bottom / (factor_of (age_of h) p).top
unfolding multiple_factor
given_up_worked h p lump = given_up_multiple (multiplier p.kind) lump (factor_of (age_of h) p) (multiplier_positive p.kind)

-- the second instalment by the increase
second_worked : (p : Pension) (lump : ℕ) → lump * increase_of p / 10000 ≡ second_of p lump
unfolding increase_of second_of
second_worked p lump = go (eqb p.kind 2)
  where
    go : (second : Bool) → lump * cond second p.terms.increase 0 / 10000 ≡ cond second (lump * p.terms.increase / 10000) 0
    go true = refl
    go false = omega arith

-- the row of a pension, of its parts
pub row_made : (h : Head) (p : Pension) (b : Benefit) (price increase : ℕ) → FactorRange (factor_of (age_of h) p)
    → b ≡ multiple_benefit h p → price ≡ price_of b.factor → increase ≡ increase_of p
    → ◌≡◌ {A = PensionRow}
    (record { benefit = b; price = price; increase = increase; lump = record { 0 = 0 }; waiting = true })
    (row_of h p)
unfolding row_of multiple_benefit
row_made h p b price increase range made priced raised =
    let cost : price ≡ price_of (factor_of (age_of h) p) = priced ∙ ap (λ (x : Benefit). price_of x.factor) made ∙ price_worked h p range in
    λ i. record { benefit = made i; price = cost i; increase = raised i; lump = record { 0 = 0 }; waiting = true }

-- what a row has of its pension, whatever its turn gave
module _ (h : Head) (p : Pension) (r : PensionRow) (same : before_turn r ≡ row_of h p) where
  pub pension_worked : r.benefit.pension.0 ≡ worked_pension h p
  unfolding row_of multiple_benefit
  pension_worked = ap (λ (x : PensionRow). x.benefit.pension.0) same

  pub multiple_worked : r.benefit.factor ≡ multiple_factor h p
  unfolding row_of multiple_benefit
  multiple_worked = ap (λ (x : PensionRow). x.benefit.factor) same

  pub increase_worked : r.increase ≡ increase_of p
  unfolding row_of
  increase_worked = ap (λ (x : PensionRow). x.increase) same

  -- its share
  pub share_worked : share_in r ≡ share_of h p r.lump.0
  unfolding share_of remaining_of benefit_of
  share_worked =
      rw (pension_worked, multiple_worked, increase_worked, given_up_worked h p r.lump.0, second_worked p r.lump.0) refl
