-- The lowest condition of a case is the lower of those of its head, of each pension and of the total: a list of
-- conditions joined place by place with another has the lower of their lowest. Assumes nothing.
use Prim.Native.Nat.{ℕ, zero, suc, ◌≤◌, ◌<◌, min}
use mathlib.Core.Path.{◌≡◌, refl, sym, ◌∙◌, ap}
use mathlib.Core.Bool.{Bool, true, false, cond, not, ◌||◌, or-false, or_assoc}
use mathlib.Core.Logic.{◌⊎◌, inl, inr, ⊎_elim}
use mathlib.Core.List.{List, [], ◌∷◌, ◌++◌}
use native.Mathlib.Omega.{arith}
use lib.ListN.{length}
use borrow.Author.Tests.{ne_eqb, not-true}
use Rattle.calendar.specs.Calendar.{common_date}
use Rattle.calendar.specs.Tests.{lowest}
use Rattle.calendar.proofs.CalendarLaws.{common_in}
use Rattle.calendar.proofs.TestsLaws.{any_snoc}
use Rattle.split.specs.declared.case.Head.{Head}
use Rattle.split.specs.declared.case.Pension.{Pension}
use Rattle.split.specs.Refusal.{age_of, undated, disordered, unknown_kind, unlisted, wrong_age, no_factor, unstated, conditions_with}
use Rattle.split.specs.Conditions.{lower, later_conditions, pension_conditions}

-- two lists of conditions, place by place
abbrev pub either : List Bool → List Bool → List Bool
either [] bs = []
either (a ∷ xs) [] = []
either (a ∷ xs) (b ∷ bs) = (a || b) ∷ either xs bs

-- `lower` by its cases
pub lower_none : (a : ℕ) → lower a 0 ≡ a
unfolding lower
lower_none zero = refl
lower_none (suc a) = simp (ne_eqb (suc a) 0 (omega arith))

pub none_lower : (b : ℕ) → lower 0 b ≡ b
unfolding lower
none_lower b = refl

pub lower_both : (a b : ℕ) → 0 < a → 0 < b → lower a b ≡ min a b
unfolding lower
lower_both a b p q = simp (ne_eqb a 0 (omega arith), ne_eqb b 0 (omega arith))

pub lower_zero : (a b : ℕ) → lower a b ≡ 0 → (a ≡ 0) × (b ≡ 0)
lower_zero zero b e = (refl, sym (none_lower b) ∙ e)
lower_zero (suc a) zero e = absurd (omega (arith, lower_none (suc a)))
lower_zero (suc a) (suc b) e = absurd (omega (arith, lower_both (suc a) (suc b) (omega arith) (omega arith)))

-- a lowest condition counted from k is none or at least k
lowest_from : (k : ℕ) (bs : List Bool) → (lowest k bs ≡ 0) ⊎ (k ≤ lowest k bs)
lowest_from k [] = inl refl
lowest_from k (true ∷ bs) = inr (omega arith)
lowest_from k (false ∷ bs) = ⊎_elim inl (λ h. inr (omega arith)) (lowest_from (suc k) bs)

-- a condition that holds is lower than any at a later place
lower-lowest : (k : ℕ) (bs : List Bool) → lower (suc k) (lowest (suc (suc k)) bs) ≡ suc k
lower-lowest k bs =
    ⊎_elim {A = lowest (suc (suc k)) bs ≡ 0}
    (λ e. ap (λ (n : ℕ). lower (suc k) n) e ∙ lower_none (suc k))
    (λ h. lower_both (suc k) (lowest (suc (suc k)) bs) (omega arith) (omega arith) ∙ omega arith)
    (lowest_from (suc (suc k)) bs)

lower_last : (k : ℕ) (bs : List Bool) → lower (lowest (suc (suc k)) bs) (suc k) ≡ suc k
lower_last k bs =
    ⊎_elim {A = lowest (suc (suc k)) bs ≡ 0}
    (λ e. ap (λ (n : ℕ). lower n (suc k)) e ∙ none_lower (suc k))
    (λ h. lower_both (lowest (suc (suc k)) bs) (suc k) (omega arith) (omega arith) ∙ omega arith)
    (lowest_from (suc (suc k)) bs)

-- the lowest of either
pub lowest-either : (k : ℕ) (xs bs : List Bool) → length xs ≡ length bs
    → lowest (suc k) (either xs bs) ≡ lower (lowest (suc k) xs) (lowest (suc k) bs)
lowest-either k [] [] e = sym (none_lower 0)
lowest-either k [] (b ∷ bs) e = absurd (omega arith)
lowest-either k (x ∷ xs) [] e = absurd (omega arith)
lowest-either k (true ∷ xs) (true ∷ bs) e = sym (lower_both (suc k) (suc k) (omega arith) (omega arith) ∙ omega arith)
lowest-either k (true ∷ xs) (false ∷ bs) e = sym (lower-lowest k bs)
lowest-either k (false ∷ xs) (true ∷ bs) e = sym (lower_last k xs)
lowest-either k (false ∷ xs) (false ∷ bs) e = lowest-either (suc k) xs bs (omega arith)

-- one more pension
conditions_either : (h : Head) (ps : List Pension) (p : Pension)
    → conditions_with false h (ps ++ (p ∷ [])) ≡ either (conditions_with false h ps) (pension_conditions h p)
unfolding conditions_with pension_conditions
conditions_either h ps p = simp (any_snoc, or_assoc, or-false)

pub conditions_more : (h : Head) (ps : List Pension) (p : Pension)
    → lowest 3 (conditions_with false h (ps ++ (p ∷ [])))
    ≡ lower (lowest 3 (conditions_with false h ps)) (lowest 3 (pension_conditions h p))
unfolding conditions_with pension_conditions
conditions_more h ps p =
    ap (λ (bs : List Bool). lowest 3 bs) (conditions_either h ps p)
    ∙ lowest-either 2 (conditions_with false h ps) (pension_conditions h p) refl

-- and a total that is too high
too_high : List Bool
too_high = false ∷ false ∷ false ∷ false ∷ false ∷ false ∷ false ∷ true ∷ []

high_either : (h : Head) (ps : List Pension) → conditions_with true h ps ≡ either (conditions_with false h ps) too_high
unfolding conditions_with too_high
high_either h ps = simp or-false

pub conditions_high : (h : Head) (ps : List Pension)
    → lowest 3 (conditions_with true h ps) ≡ lower (lowest 3 (conditions_with false h ps)) 10
unfolding conditions_with too_high
conditions_high h ps =
    ap (λ (bs : List Bool). lowest 3 bs) (high_either h ps) ∙ lowest-either 2 (conditions_with false h ps) too_high refl

-- the conditions of a pension, the later ones together
pub pension_lowest : (h : Head) (p : Pension) (age : ℕ) → age ≡ age_of h → lowest 3 (pension_conditions h p)
    ≡ cond (undated p) 3
    (cond (disordered h p) 4
    (cond (unknown_kind p) 6 (lowest 7 (later_conditions age p))))
unfolding pension_conditions
pension_lowest h p age e = rw e

-- a service of common dates in order breaks neither of the first two
pub service_plain : (h : Head) (p : Pension) (d : Bool) → common_date p.service.start ≡ true → common_date p.service.end ≡ true
    → d ≡ disordered h p → not d ≡ true → (undated p ≡ false) × (disordered h p ≡ false)
unfolding undated
service_plain h p d start end made ordered =
    (simp (common_in p.service.start start, common_in p.service.end end), sym made ∙ not-true d ordered)

-- where none of the conditions after the kind holds, the lowest of them is none
pub later_none : (age : ℕ) (p : Pension) → unlisted p ≡ false → wrong_age age p ≡ false → no_factor age p ≡ false → unstated p ≡ false
    → lowest 7 (later_conditions age p) ≡ 0
later_none age p a b c d = simp (a, b, c, d)
