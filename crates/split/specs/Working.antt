-- The pensions of a case as the code works them out, with a row for each, for the contracts of private functions. Nothing here
-- has to be believed. Assumes nothing.
use Rattle.std.specs.Prelude.{ℕ, ◌-◌, ◌*◌, ◌/◌, ◌≤◌, true, false, cond, List, map, ◌≡◌, ltb, eqb, length, sum_by, Option, Some, None}
use Rattle.calendar.specs.Calendar.{months, sixtieth_birthday}
use Rattle.calendar.specs.Tests.{lowest}
use Rattle.factors.specs.declared.effective.Factor.{Factor}
use Rattle.factors.specs.EarlyPayment.{early_payment_factor}
use Rattle.factors.specs.Effective.{multiplier, multiple}
use Rattle.split.specs.declared.case.Head.{Head}
use Rattle.split.specs.declared.case.Pension.{Pension}
use Rattle.split.specs.declared.limits.Benefit.{Benefit}
use Rattle.split.specs.declared.limits.PensionRow.{PensionRow}
use Rattle.split.specs.declared.answers.Share.{Share}
use Rattle.split.specs.Answers.{Quote}
use Rattle.factors.specs.declared.money.LumpPence.{LumpPence}
use Rattle.split.specs.Allowance.{Allowance, no_allowance}
use Rattle.split.specs.Case.{pensions_at, case_length}
use Rattle.split.specs.Bytes.{FieldOf}
use Rattle.split.specs.Refusal.{age_of, conditions}
use Rattle.split.specs.Conditions.{pension_conditions}
use Rattle.split.specs.Benefits.{worked_pension, factor_of, benefit_of}
use Rattle.split.specs.Limits.{no_benefit, price_of}
use Rattle.split.specs.Grant.{Row}
use Rattle.split.specs.Quote.{granted_quote, refused_quote}

-- how many thousandths of a 2015 pension are paid
unfoldable pub paid_thousandths : Head → ℕ
paid_thousandths h =
    cond (ltb (age_of h) 720) (early_payment_factor (months h.commencement (sixtieth_birthday h.birth))) 1000

-- a pension that no condition holds of, in a case with this head
pub record AcceptedIn (h : Head) (p : Pension) : Type 0 where
  pub none : lowest 3 (pension_conditions h p) ≡ 0
  pub stated : p.stated.0 ≤ 50000000

-- E as the code has it
unfoldable pub multiple_factor : Head → Pension → Factor
multiple_factor h p = multiple (multiplier p.kind) (factor_of (age_of h) p)

-- a pension as the limits see it, with that E
unfoldable pub multiple_benefit : Head → Pension → Benefit
multiple_benefit h p =
    record { pension = record { 0 = worked_pension h p }; factor = multiple_factor h p; cap = (benefit_of h p).cap }

-- the increase that gives a second instalment
unfoldable pub increase_of : Pension → ℕ
increase_of p = cond (eqb p.kind 2) p.terms.increase 0

-- the row that stands for none
abbrev pub no_row : PensionRow
no_row = record { benefit = no_benefit; price = 0; increase = 0; lump = record { 0 = 0 }; waiting = false }

-- the row of a pension before its turn
unfoldable pub row_of : Head → Pension → PensionRow
row_of h p =
    record {
      benefit = multiple_benefit h p;
      price = price_of (factor_of (age_of h) p);
      increase = increase_of p;
      lump = record { 0 = 0 };
      waiting = true;
    }

-- what going through n pensions finds: the pensions themselves, whatever line they were read from, their refusal, and where
-- there is none their rows
pub record WorkedOut (h : Head) (b : List ℕ) (n refused : ℕ) (rows : List PensionRow) : Type 0 where
  pub pensions : List Pension
  pub counted : length pensions ≡ n
  pub read : FieldOf b (case_length n) pensions (λ s. pensions_at s n)
  pub judged : refused ≡ lowest 3 (conditions h pensions)
  pub made : refused ≡ 0 → rows ≡ map (row_of h) pensions

-- a row as the grant has it
abbrev pub row_in : PensionRow → Row
row_in r = record { price = r.price; cap = r.benefit.cap; lump = r.lump; waiting = r.waiting }

-- a row as it was before its turn
abbrev pub before_turn : PensionRow → PensionRow
before_turn r =
    record { benefit = r.benefit; price = r.price; increase = r.increase; lump = record { 0 = 0 }; waiting = true }

-- the allowance that the code has as an `Option`
abbrev pub allowance_by : Option LumpPence → Allowance
allowance_by None = no_allowance
allowance_by (Some left) = record { applies = true; left = left }

-- the pensions of rows
abbrev pub benefits_in : List PensionRow → List Benefit
benefits_in rows = map (λ (r : PensionRow). r.benefit) rows

-- the pensions of rows together, and the lumps
abbrev pub pension_total : List PensionRow → ℕ
pension_total rows = sum_by (λ (r : PensionRow). r.benefit.pension.0) rows

abbrev pub lump_total : List PensionRow → ℕ
lump_total rows = sum_by (λ (r : PensionRow). r.lump.0) rows

-- the share of a row
abbrev pub share_in : PensionRow → Share
share_in r =
    record {
      lump = r.lump;
      remaining = record { 0 = r.benefit.pension.0 - r.lump.0 * r.benefit.factor.bottom / r.benefit.factor.top };
      second = record { 0 = r.lump.0 * r.increase / 10000 };
    }

-- the quote of a case
unfoldable pub case_quote : Head → List Pension → ℕ → Quote
case_quote h ps used =
    cond (eqb (lowest 3 (conditions h ps)) 0) (granted_quote h ps used) (refused_quote (lowest 3 (conditions h ps)))
