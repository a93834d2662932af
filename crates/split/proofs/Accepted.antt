-- What an accepted case has: what each condition denied, of the head, of any pension and of the total; so every factor
-- and every amount is in its range. No condition holds where the lowest is 0; the factor goes by the kind, and the sums
-- by induction over the pensions. Assumes nothing.
use Prim.Native.Nat.{ℕ, zero, suc, ◌*◌, ◌≤◌, ◌<◌}
use mathlib.Core.Bool.{Bool, true, false, cond, not, ◌&&◌}
use mathlib.Core.List.{List, [], ◌∷◌}
use mathlib.Core.Path.{◌≡◌, refl}
use native.Mathlib.Omega.{arith}
use lib.Dec.{leb, eqb, ltb}
use lib.ListN.{length, get_or}
use borrow.Author.Tests.{lt-ltb, eqb-true, not-false, ltb-false, eq-eqb, ne_eqb}
use Rattle.calendar.specs.Tests.{within, lowest, any}
use Rattle.calendar.specs.Calendar.{in_calendar, months, sixtieth_birthday}
use Rattle.calendar.proofs.CalendarLaws.{months_to_sixtieth, sixtieth_ahead}
use Rattle.calendar.proofs.TestsLaws.{and_right, within_bounds, and_left, or_left, or_right, any_none, none_holds}
use Rattle.factors.specs.declared.effective.FactorTerms.{FactorTerms}
use Rattle.factors.specs.Effective.{FactorRange, effective_factor}
use Rattle.factors.specs.Commutation.{commutation_factor}
use Rattle.factors.specs.EarlyPayment.{reduced_pension}
use Rattle.factors.proofs.CommutationLaws.{commutation_range}
use Rattle.factors.proofs.EffectiveLaws.{DeferredTerms, direct_range, deferred_range, active_range}
use Rattle.factors.proofs.EarlyPaymentLaws.{reduced_by_entry, reduced_at_most}
use Rattle.split.specs.declared.case.Head.{Head}
use Rattle.split.specs.declared.case.Pension.{Pension}
use Rattle.split.specs.Case.{no_pension}
use Rattle.split.specs.Refusal.{age_of, listed_f1, no_increase, listed_increase, unlisted, conditions, undated_head, undated, disordered, bad_age, unknown_kind, wrong_age, no_factor, unstated, total_stated, conditions_with}
use Rattle.split.specs.Conditions.{pension_conditions}
use Rattle.split.specs.Benefits.{worked_pension, EarlyPaid, factor_of, limited_lump, benefit_of, benefits_of, worked_terms}
use Rattle.split.specs.Limits.{total_pension, total_cap, PositiveTops}
use Rattle.split.proofs.BenefitsLaws.{cap_quarter, quarter_at_most}

-- what the conditions denied of a pension
pub record AcceptedPension (h : Head) (p : Pension) : Type 0 where
  pub dated : undated p ≡ false
  pub ordered : disordered h p ≡ false
  pub known : unknown_kind p ≡ false
  pub listed : unlisted p ≡ false
  pub aged : wrong_age (age_of h) p ≡ false
  pub factored : no_factor (age_of h) p ≡ false
  pub stated : unstated p ≡ false

-- and of the case
pub record Accepted (h : Head) (ps : List Pension) : Type 0 where
  pub head_dated : undated_head h ≡ false
  pub head_aged : bad_age (age_of h) ≡ false
  pub each : (j : ℕ) → j < length ps → AcceptedPension h (get_or ps j no_pension)
  pub sum : total_stated ps ≤ 50000000

-- an accepted case has all that they denied
pub case_accepted : (h : Head) (ps : List Pension) → lowest 3 (conditions h ps) ≡ 0 → Accepted h ps
unfolding conditions_with
case_accepted h ps e =
    let none = none_holds 2 (conditions h ps) e in
    record {
      head_dated = or_left (undated_head h) (any undated ps) (none 0);
      head_aged = none 2;
      each = λ j place. record {
        dated = any_none undated ps no_pension (or_right (undated_head h) (any undated ps) (none 0)) j place;
        ordered = any_none (disordered h) ps no_pension (none 1) j place;
        known = any_none unknown_kind ps no_pension (none 3) j place;
        listed = any_none unlisted ps no_pension (none 4) j place;
        aged = any_none (wrong_age (age_of h)) ps no_pension (none 5) j place;
        factored = any_none (no_factor (age_of h)) ps no_pension (none 6) j place;
        stated =
            any_none unstated ps no_pension (or_left (any unstated ps) (ltb 50000000 (total_stated ps)) (none 7)) j place;
      };
      sum = ltb-false 50000000 (total_stated ps) (or_right (any unstated ps) (ltb 50000000 (total_stated ps)) (none 7));
    }

-- and so has a pension of which none holds
pub pension_accepted : (h : Head) (p : Pension) → lowest 3 (pension_conditions h p) ≡ 0 → AcceptedPension h p
unfolding pension_conditions
pension_accepted h p e =
    let none = none_holds 2 (pension_conditions h p) e in
    record {
      dated = none 0;
      ordered = none 1;
      known = none 3;
      listed = none 4;
      aged = none 5;
      factored = none 6;
      stated = none 7;
    }

-- the kind is 1, 2 or 3
known_kind : (p : Pension) → unknown_kind p ≡ false → (1 ≤ p.kind) × (p.kind ≤ 3)
unfolding unknown_kind
known_kind p e = within_bounds 1 3 p.kind (not-false (within 1 3 p.kind) e)

-- of a kind that has an F1, it is in its range, given or looked up, and the rest of the list holds
worked_f1 : (age : ℕ) (p : Pension) (rest : Bool) → not (leb p.lift 1 && (listed_f1 p.terms && rest)) ≡ false
    → (eqb p.terms.f1 0 && not (within 636 875 age)) ≡ false
    → (500 ≤ commutation_factor p.terms.f1 age) × (commutation_factor p.terms.f1 age ≤ 4000) × (rest ≡ true)
unfolding listed_f1
worked_f1 age p rest listed held =
    let f1 = p.terms.f1 in
    let both = and_right (leb p.lift 1) (listed_f1 p.terms && rest) (not-false _ listed) in
    let range =
    commutation_range f1 age
    (λ z. within_bounds 636 875 age (not-false (within 636 875 age) (simp (eq-eqb f1 0 z) at held)))
    (λ z. within_bounds 500 4000 f1 (simp (ne_eqb f1 0 z) at (and_left (listed_f1 p.terms) rest both)))
    in (range.0, range.1, and_right (listed_f1 p.terms) rest both)

-- the terms of kind 2 are within their lists
pub deferred_terms : (h : Head) (p : Pension) → AcceptedPension h p → p.kind ≡ 2
    → DeferredTerms (worked_terms (age_of h) p.terms)
unfolding unlisted no_factor listed_increase worked_terms
deferred_terms h p a e =
    let t = p.terms in
    let f1 = worked_f1 (age_of h) p (listed_increase t) (simp e at a.listed) (simp e at a.factored) in
    let last = and_right (within 500 4000 t.f2) (within 1 1000 t.f3 && within 1 10000 t.increase) f1.2 in
    let f2 = within_bounds 500 4000 t.f2 (and_left (within 500 4000 t.f2) _ f1.2) in
    let f3 = within_bounds 1 1000 t.f3 (and_left (within 1 1000 t.f3) _ last) in
    let increase = within_bounds 1 10000 t.increase (and_right (within 1 1000 t.f3) _ last) in
    omega arith

-- E of an accepted pension is in range
pub factor_range : (h : Head) (p : Pension) → AcceptedPension h p → FactorRange (factor_of (age_of h) p)
unfolding factor_of worked_terms unlisted no_factor
factor_range h p a = go p.kind refl
  where
    terms : FactorTerms
    terms = worked_terms (age_of h) p.terms

    go : (kind : ℕ) → p.kind ≡ kind → FactorRange (effective_factor kind terms)
    go zero e = absurd (omega (arith, known_kind p a.known))
    go (suc zero) e =
        let f1 = worked_f1 (age_of h) p (no_increase p.terms) (simp e at a.listed) (simp e at a.factored) in
        direct_range terms f1.0 f1.1
    go (suc (suc zero)) e = deferred_range terms (deferred_terms h p a e)
    go (suc (suc (suc zero))) e = active_range terms
    go (suc (suc (suc (suc kind)))) e = absurd (omega (arith, known_kind p a.known))

-- PI is at most 10,000 of any kind that is listed
last_holds : (a b c : Bool) → not (a && (b && c)) ≡ false → c ≡ true
last_holds a b c e = and_right b c (and_right a (b && c) (not-false (a && (b && c)) e))

none_zero : (t : FactorTerms) → no_increase t ≡ true → t.increase ≡ 0
unfolding no_increase
none_zero t e = eqb-true t.increase 0 (and_right (eqb t.f3 0) _ (and_right (eqb t.f2 0) _ e))

none_small : (t : FactorTerms) → no_increase t ≡ true → t.increase ≤ 10000
none_small t e = omega (arith, none_zero t e)

listed_small : (t : FactorTerms) → listed_increase t ≡ true → t.increase ≤ 10000
unfolding listed_increase
listed_small t e =
    (within_bounds 1 10000 t.increase
    (and_right (within 1 1000 t.f3) (within 1 10000 t.increase) (and_right (within 500 4000 t.f2) _ e))).1

pub increase_small : (p : Pension) → unlisted p ≡ false → p.terms.increase ≤ 10000
unfolding unlisted
increase_small p listed = go (eqb p.kind 1) (eqb p.kind 2) listed
  where
    go : (direct deferred : Bool)
        → cond direct (not (leb p.lift 1 && (listed_f1 p.terms && no_increase p.terms)))
        (cond deferred (not (leb p.lift 1 && (listed_f1 p.terms && listed_increase p.terms)))
        (not (eqb p.lift 0 && (eqb p.terms.f1 0 && no_increase p.terms)))) ≡ false
        → p.terms.increase ≤ 10000
    go true deferred e = none_small p.terms (last_holds (leb p.lift 1) (listed_f1 p.terms) _ e)
    go false true e = listed_small p.terms (last_holds (leb p.lift 1) (listed_f1 p.terms) _ e)
    go false false e = none_small p.terms (last_holds (eqb p.lift 0) (eqb p.terms.f1 0) _ e)

-- a pension is at most what is stated
pub worked_at_most : (h : Head) (p : Pension) → worked_pension h p ≤ p.stated.0
unfolding worked_pension
worked_at_most h p = go (eqb p.kind 3 && ltb (age_of h) 720)
  where
    left : ℕ
    left = months h.commencement (sixtieth_birthday h.birth)

    go : (early : Bool) → cond early (reduced_pension p.stated.0 left) p.stated.0 ≤ p.stated.0
    go true = reduced_at_most p.stated.0 left
    go false = omega arith

-- kind 3 is at 660 months or more, so below 720 months Table A is looked up within its 61 entries
active_aged : (h : Head) (p : Pension) → AcceptedPension h p → p.kind ≡ 3 → 660 ≤ age_of h
unfolding wrong_age
active_aged h p a kind = ltb-false (age_of h) 660 (simp kind at a.aged)

pub early_paid : (h : Head) (ps : List Pension) → lowest 3 (conditions h ps) ≡ 0 → (j : ℕ) → j < length ps → (get_or ps j no_pension).kind ≡ 3
    → age_of h < 720 → EarlyPaid h (get_or ps j no_pension) (months h.commencement (sixtieth_birthday h.birth))
unfolding age_of undated_head worked_pension
early_paid h ps none j place kind young =
    let a = case_accepted h ps none in
    let birth = or_left (not (in_calendar h.birth)) _ a.head_dated in
    let last = months_to_sixtieth h.birth h.commencement (active_aged h (get_or ps j no_pension) (a.each j place) kind) young in
    let entry = reduced_by_entry (get_or ps j no_pension).stated.0 (months h.commencement (sixtieth_birthday h.birth)) last in
    record {
      ahead =
          sixtieth_ahead h.birth h.commencement (not-false _ birth)
          (not-false _ (or_right (not (in_calendar h.birth)) _ a.head_dated)) young;
      last = last;
      held = entry.0;
      entry = entry.1;
      worked = simp (kind, lt-ltb (age_of h) 720 young) entry.2;
    }

-- the pensions after the first are accepted too
pub accepted_rest : {h : Head} {p : Pension} {ps : List Pension} → Accepted h (p ∷ ps) → Accepted h ps
accepted_rest a = record {
  head_dated = a.head_dated;
  head_aged = a.head_aged;
  each = λ j place. a.each (suc j) (omega arith);
  sum = omega arith;
}

-- the caps are at most twenty times what is stated
caps_at_most : (h : Head) (ps : List Pension) → Accepted h ps → total_cap (benefits_of h ps) ≤ 20 * total_stated ps
unfolding benefit_of
caps_at_most h [] a = omega arith
caps_at_most h (p ∷ ps) a =
    omega (
      arith,
      cap_quarter (limited_lump p) (worked_pension h p) (factor_of (age_of h) p),
      quarter_at_most (worked_pension h p) (factor_of (age_of h) p) (factor_range h p (a.each 0 (omega arith))),
      worked_at_most h p,
      caps_at_most h ps (accepted_rest a),
    )

-- and the pensions are at most what is stated
pensions_at_most : (h : Head) (ps : List Pension) → total_pension (benefits_of h ps) ≤ total_stated ps
unfolding benefit_of
pensions_at_most h [] = omega arith
pensions_at_most h (p ∷ ps) = omega (arith, worked_at_most h p, pensions_at_most h ps)

-- what the theorem of the best split asks
pub accepted_tops : (h : Head) (ps : List Pension) → Accepted h ps → PositiveTops (benefits_of h ps)
unfolding benefit_of
accepted_tops h [] a = tt
accepted_tops h (p ∷ ps) a =
    ((factor_range h p (a.each 0 (omega arith))).top_positive, accepted_tops h ps (accepted_rest a))

pub accepted_caps : (h : Head) (ps : List Pension) → Accepted h ps → total_cap (benefits_of h ps) ≤ 1000000000
accepted_caps h ps a = omega (arith, caps_at_most h ps a)

pub accepted_pensions : (h : Head) (ps : List Pension) → Accepted h ps → total_pension (benefits_of h ps) ≤ 50000000
accepted_pensions h ps a = omega (arith, pensions_at_most h ps)
