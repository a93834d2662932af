-- Parts of the conditions for the contracts of private functions, which work them out head first and then pension by
-- pension. The head's are those of a case with no pension. That they make up the conditions is proved; nothing here has
-- to be believed. Assumes nothing.
use Rattle.std.specs.Prelude.{ℕ, min, Bool, false, cond, List, [], ◌∷◌, eqb}
use Rattle.split.specs.declared.case.Head.{Head}
use Rattle.split.specs.declared.case.Pension.{Pension}
use Rattle.split.specs.Refusal.{age_of, undated, disordered, unknown_kind, unlisted, wrong_age, no_factor, unstated}

-- the lower of two refusals, of which 0 is none
unfoldable pub lower : ℕ → ℕ → ℕ
lower a b = cond (eqb a 0) b (cond (eqb b 0) a (min a b))

-- what a pension breaks of conditions 7 to 10
abbrev pub later_conditions : ℕ → Pension → List Bool
later_conditions age p = unlisted p ∷ wrong_age age p ∷ no_factor age p ∷ unstated p ∷ []

-- what a pension breaks of conditions 3 to 10
unfoldable pub pension_conditions : Head → Pension → List Bool
pension_conditions h p = undated p ∷ disordered h p ∷ false ∷ unknown_kind p ∷ later_conditions (age_of h) p
