-- What a turn of the loop over the pensions of a case does: one pension more is read, its conditions and its amount count, and
-- where nothing is refused so far its row is stored; after the last the total counts. Assumes nothing.
use Prim.Native.Nat.{ℕ, ◌+◌, ◌≤◌, ◌<◌}
use mathlib.Core.Path.{◌≡◌, refl, sym, ◌∙◌, ap₂}
use mathlib.Core.Bool.{true, false, cond, ◌&&◌, true≢false}
use mathlib.Core.List.{List, [], ◌∷◌, ◌++◌, map}
use native.Mathlib.Omega.{arith}
use native.Mathlib.Decide.{dec_lt}
use lib.Dec.{leb, ltb, eqb}
use lib.ListN.{length, take, set, length-append}
use lib.Seq.{take_all}
use borrow.Author.Tests.{lt-ltb, le-ltb, le-leb, leb-true, eq-eqb, eqb-true}
use Rattle.calendar.specs.Tests.{lowest}
use Rattle.calendar.proofs.SumsLaws.{sum_more}
use Rattle.calendar.proofs.TestsLaws.{and_left, and_right}
use Rattle.split.specs.declared.case.Head.{Head}
use Rattle.split.specs.declared.case.Pension.{Pension}
use Rattle.split.specs.declared.limits.PensionRow.{PensionRow}
use Rattle.split.specs.Case.{pension_at, pensions_at, pension_length, case_length}
use Rattle.split.specs.Bytes.{FieldOf, Taken}
use Rattle.split.specs.Refusal.{total_stated, conditions, conditions_with}
use Rattle.split.specs.Conditions.{lower, pension_conditions}
use Rattle.split.specs.Working.{AcceptedIn, row_of, WorkedOut}
use Rattle.split.proofs.CaseLaws.{pensions_read}
use Rattle.split.proofs.ListLoop.{map_more}
use Rattle.split.proofs.ConditionsLaws.{lower_none, lower_zero, conditions_more, conditions_high}

-- the first i pensions were gone through
pub record Gone (h : Head) (b : List ℕ) (i next refused total : ℕ) (rows : List PensionRow) : Type 0 where
  pub pensions : List Pension
  pub counted : length pensions ≡ i
  pub read : FieldOf b next pensions (λ s. pensions_at s i)
  pub judged : refused ≡ lowest 3 (conditions_with false h pensions)
  pub summed : total ≡ total_stated pensions
  pub made : refused ≡ 0 → total ≤ 50000000 → take i rows ≡ map (row_of h) pensions

pub gone_none : (h : Head) (b : List ℕ) (next refused : ℕ) (rows : List PensionRow)
    → refused ≡ lowest 3 (conditions_with false h []) → Gone h b 0 next refused 0 rows
unfolding pensions_at
gone_none h b next refused rows judged =
    record {
      pensions = [];
      counted = refl;
      read = λ s bytes within. refl;
      judged = judged;
      summed = refl;
      made = λ none small. refl;
    }

-- one pension more
module _ {h : Head} {b : List ℕ} {i next refused total : ℕ} {rows : List PensionRow} (g : Gone h b i next refused total rows)
    (p : Pension) (end r t : ℕ) (start : next ≡ case_length i) (taken : Taken b next pension_at pension_length p end)
    (judged : r ≡ lower refused (lowest 3 (pension_conditions h p))) (summed : t ≡ total + p.stated.0) where
  longer : List Pension
  longer = g.pensions ++ (p ∷ [])

  one_more : (more : List PensionRow)
      → (r ≡ 0 → t ≤ 50000000 → take i rows ≡ map (row_of h) g.pensions → take (i + 1) more ≡ map (row_of h) longer)
      → Gone h b (i + 1) end r t more
  unfolding longer
  one_more more made =
      record {
        pensions = longer;
        counted = omega (arith, length-append g.pensions (p ∷ []), g.counted);
        read = pensions_read b g.pensions i next end p start g.read taken;
        judged = judged ∙ ap₂ lower g.judged refl ∙ sym (conditions_more h g.pensions p);
        summed = summed ∙ rw g.summed (sym (sum_more (λ (q : Pension). q.stated.0) g.pensions p));
        made = λ none small.
            made none small
            (g.made (lower_zero refused (lowest 3 (pension_conditions h p)) (sym judged ∙ none)).0 (omega arith));
      }

  -- none is refused so far: its row is stored
  pub one_stored : (row : PensionRow) → i < length rows → row ≡ row_of h p → Gone h b (i + 1) end r t (set rows i row)
  unfolding longer
  one_stored row place e = one_more (set rows i row) (λ none small held. rw e (map_more (row_of h) g.pensions rows i p place held))

  -- one is: rows say nothing from now on
  pub one_passed : (more : List PensionRow) → (eqb r 0 && leb t 50000000) ≡ false → Gone h b (i + 1) end r t more
  one_passed more some =
      one_more more (λ none small held. absurd (true≢false (sym (simp (eq-eqb r 0 none, le-leb t 50000000 small)) ∙ some)))

-- a pension is accepted where nothing is refused so far
pub none_refused : (h : Head) (p : Pension) (refused r total t : ℕ)
    → r ≡ lower refused (lowest 3 (pension_conditions h p)) → t ≡ total + p.stated.0 → (eqb r 0 && leb t 50000000) ≡ true
    → AcceptedIn h p
none_refused h p refused r total t judged summed all =
    record {
      none = (lower_zero refused (lowest 3 (pension_conditions h p)) (sym judged ∙ eqb-true r 0 (and_left (eqb r 0) _ all))).1;
      stated = omega (arith, leb-true t 50000000 (and_right (eqb r 0) _ all));
    }

-- after the last, a total above the limit counts as one more condition
total_above : (h : Head) (ps : List Pension) (t a r : ℕ) → t ≡ total_stated ps → a ≡ lowest 3 (conditions_with false h ps)
    → 50000000 < t → r ≡ lower a 10 → r ≡ lowest 3 (conditions h ps)
total_above h ps t a r e x over y = rw (← e, lt-ltb 50000000 t over) (y ∙ rw x (sym (conditions_high h ps)))

total_within : (h : Head) (ps : List Pension) (t a : ℕ) → t ≡ total_stated ps → a ≡ lowest 3 (conditions_with false h ps)
    → t ≤ 50000000 → a ≡ lowest 3 (conditions h ps)
total_within h ps t a e x small = rw (← e, le-ltb 50000000 t small) x

module _ {h : Head} {b : List ℕ} {i n next refused total : ℕ} {rows : List PensionRow} (g : Gone h b i next refused total rows)
    (end : next ≡ case_length i) (whole : i ≡ n) (counted : length rows ≡ n) where
  read_all : FieldOf b (case_length n) g.pensions (λ s. pensions_at s n)
  read_all = rw (← whole, ← end) g.read

  made_all : refused ≡ 0 → total ≤ 50000000 → rows ≡ map (row_of h) g.pensions
  made_all none small = sym (take_all i rows (omega arith)) ∙ g.made none small

  gone_above : (r : ℕ) → 50000000 < total → r ≡ lower refused 10 → WorkedOut h b n r rows
  gone_above r over made =
      record {
        pensions = g.pensions;
        counted = g.counted ∙ whole;
        read = read_all;
        judged = total_above h g.pensions total refused r g.summed g.judged over made;
        made = λ none. absurd (omega (arith, (lower_zero refused 10 (sym made ∙ none)).1));
      }

  gone_within : total ≤ 50000000 → WorkedOut h b n refused rows
  gone_within small =
      record {
        pensions = g.pensions;
        counted = g.counted ∙ whole;
        read = read_all;
        judged = total_within h g.pensions total refused g.summed g.judged small;
        made = λ none. made_all none small;
      }

  pub gone_judged : (r : ℕ) → r ≡ lower refused (cond (ltb 50000000 total) 10 0) → WorkedOut h b n r rows
  gone_judged r made = elim (dec_lt 50000000 total) [
    | yes over ↦ gone_above r over (rw (lt-ltb 50000000 total over) at made)
    | no not ↦
        let small : total ≤ 50000000 = omega arith in
        let same : r ≡ refused = rw (le-ltb 50000000 total small) at made ∙ lower_none refused in
        rw same (gone_within small)
  ]
