-- `terms_refusal`: the first test that passes is the lowest condition.
use Rattle.split.proofs.basis.Basis.terms_refusal.Goals as goal

pub returns : goal.returns
returns c = simp (← c.is_unlisted.ensures, c.if-is_unlisted.false, ← c.is_wrong_age.ensures, c.if-is_wrong_age.false, ← c.has_no_factor.ensures, c.if-has_no_factor.false, ← c.is_unstated.ensures, c.if-is_unstated.false)
