-- `head_refusal`: the first test that passes is the lowest condition.
use mathlib.Core.Bool.{or-false}
use mathlib.Core.Path.{◌≡◌, sym, ◌∙◌, ap}
use Rattle.split.specs.Refusal.{age_of, undated_head, bad_age, conditions_with}
use Rattle.split.proofs.basis.Basis.head_refusal.Goals as goal
use Rattle.split.proofs.basis.Basis.head_refusal.Goals.{After-is_bad_age}

pub returns-then-is_undated : goal.returns-then-is_undated
unfolding conditions_with undated_head
returns-then-is_undated c = simp (conditions_with, or-false, ← c.is_undated.ensures, c.if-is_undated.true)

-- the age is that of the head
aged : (c : After-is_bad_age) → bad_age (age_of c.args.self.head) ≡ c.is_bad_age.result
aged c = ap bad_age (sym c.args.self.aged) ∙ sym c.is_bad_age.ensures

pub returns-then-is_bad_age : goal.returns-then-is_bad_age
unfolding conditions_with undated_head
returns-then-is_bad_age c =
    simp (conditions_with, or-false, ← c.is_undated.ensures, c.if-is_undated.false, aged ((goal.at.returns-then-is_bad_age c).After-is_bad_age), c.if-is_bad_age.true)

pub returns : goal.returns
unfolding conditions_with undated_head
returns c =
    simp (conditions_with, or-false, ← c.is_undated.ensures, c.if-is_undated.false, aged ((goal.at.returns c).After-is_bad_age), c.if-is_bad_age.false)
