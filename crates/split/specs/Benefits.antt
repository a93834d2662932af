-- A pension of a case as the limits see it: the pension P after early payment, the factor E, and the cap ("Months and
-- factors" and "Split" of document 01). Assumes nothing.
use Rattle.std.specs.Prelude.{ℕ, ◌*◌, ◌/◌, ◌≤◌, ◌<◌, min, Bool, false, cond, ◌&&◌, ◌||◌, List, map, ◌≡◌, ltb, eqb, length, get_or}
use Rattle.calendar.specs.Calendar.{earlier, months, sixtieth_birthday}
use Rattle.calendar.specs.Tests.{within}
use Rattle.factors.specs.declared.effective.Factor.{Factor}
use Rattle.factors.specs.declared.effective.FactorTerms.{FactorTerms}
use Rattle.factors.specs.Commutation.{commutation_factor}
use Rattle.factors.specs.EarlyPayment.{table_a, reduced_pension}
use Rattle.factors.specs.Effective.{effective_factor}
use Rattle.split.specs.declared.case.Head.{Head}
use Rattle.split.specs.declared.case.Pension.{Pension}
use Rattle.split.specs.declared.limits.Benefit.{Benefit}
use Rattle.split.specs.Refusal.{age_of}

-- P: "Kind 3: below age 720 months the pension becomes stated pension × Table A ÷ 1,000, down, at the months from
-- commencement to the 60th birthday. From 720 months on it is kept whole. All later steps use this pension."
unfoldable pub worked_pension : Head → Pension → ℕ
worked_pension h p =
    cond (eqb p.kind 3 && ltb (age_of h) 720)
    (reduced_pension p.stated.0 (months h.commencement (sixtieth_birthday h.birth)))
    p.stated.0

-- What is claimed of a kind 3 pension before 720 months, `left` months before the 60th birthday: the birthday is not past,
-- Table A holds these months, 0 to 60, so that no default is met, and the pension is what its entry makes of the stated one.
pub record EarlyPaid (h : Head) (p : Pension) (left : ℕ) : Type 0 where
  pub ahead : earlier (sixtieth_birthday h.birth) h.commencement ≡ false
  pub last : left ≤ 60
  pub held : left < length table_a
  pub entry : (775 ≤ get_or table_a left 0) × (get_or table_a left 0 ≤ 998)
  pub worked : worked_pension h p ≡ p.stated.0 * get_or table_a left 0 / 1000

-- the terms with F1 as given or looked up at the age
unfoldable pub worked_terms : ℕ → FactorTerms → FactorTerms
worked_terms age t =
    record { f1 = commutation_factor t.f1 age; f2 = t.f2; f3 = t.f3; increase = t.increase }

-- E
unfoldable pub factor_of : ℕ → Pension → Factor
factor_of age p = effective_factor p.kind (worked_terms age p.terms)

-- "For kinds 1 and 2 with service from 300 to 359 months and flag 0": the two-and-a-quarter cap applies
unfoldable pub limited_lump : Pension → Bool
limited_lump p =
    (eqb p.kind 1 || eqb p.kind 2) &&
    (within 300 359 (months p.service.start p.service.end) && eqb p.lift 0)

-- "P × E ÷ 4, down"
unfoldable pub quarter_lump : ℕ → Factor → ℕ
quarter_lump pension e = pension * e.top / (4 * e.bottom)

-- "also at most 9P/4, down"
unfoldable pub cap_of : Bool → ℕ → Factor → ℕ
cap_of limited pension e = cond limited (min (quarter_lump pension e) (9 * pension / 4)) (quarter_lump pension e)

unfoldable pub benefit_of : Head → Pension → Benefit
benefit_of h p =
    record {
      pension = record { 0 = worked_pension h p };
      factor = factor_of (age_of h) p;
      cap = record { 0 = cap_of (limited_lump p) (worked_pension h p) (factor_of (age_of h) p) };
    }

abbrev pub benefits_of : Head → List Pension → List Benefit
benefits_of h ps = map (benefit_of h) ps
