-- `lowest_refusal`: the first test that passes is the lowest condition; those after the kind are the callee's.
use mathlib.Core.Path.{sym, ◌∙◌}
use Rattle.split.specs.Refusal.{undated}
use Rattle.split.proofs.ConditionsLaws.{pension_lowest}
use Rattle.split.proofs.basis.Basis.lowest_refusal.Goals as goal

pub returns-then-is_undated : goal.returns-then-is_undated
unfolding undated
returns-then-is_undated c =
    sym (pension_lowest c.args.self.head c.args.p c.args.self.age c.args.self.aged ∙ simp (← c.is_undated.ensures, c.if-is_undated.true))

pub returns-then-is_disordered : goal.returns-then-is_disordered
unfolding undated
returns-then-is_disordered c =
    sym (pension_lowest c.args.self.head c.args.p c.args.self.age c.args.self.aged ∙ simp (← c.is_undated.ensures, c.if-is_undated.false, ← c.is_disordered.ensures, c.if-is_disordered.true))

pub returns-then-is_unknown_kind : goal.returns-then-is_unknown_kind
unfolding undated
returns-then-is_unknown_kind c =
    sym (pension_lowest c.args.self.head c.args.p c.args.self.age c.args.self.aged ∙ simp (← c.is_undated.ensures, c.if-is_undated.false, ← c.is_disordered.ensures, c.if-is_disordered.false, ← c.is_unknown_kind.ensures, c.if-is_unknown_kind.true))

pub returns : goal.returns
unfolding undated
returns c =
    sym (pension_lowest c.args.self.head c.args.p c.args.self.age c.args.self.aged ∙ simp (← c.is_undated.ensures, c.if-is_undated.false, ← c.is_disordered.ensures, c.if-is_disordered.false, ← c.is_unknown_kind.ensures, c.if-is_unknown_kind.false, c.terms_refusal.ensures))
