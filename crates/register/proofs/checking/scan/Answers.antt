-- `scan` finds what the check finds: a bad used length by itself, else what the lines give.
use mathlib.Core.Path.{sym, ◌∙◌}
use Rattle.register.specs.Layout.{line_layout}
use Rattle.register.specs.Check.{check_by}
use Rattle.register.proofs.CheckLaws.{used_sound}
use Rattle.register.proofs.CheckLoop.{scanned_unsound}
use Rattle.register.proofs.checking.scan.Goals as goal

pub returns-then-is_bad_used : goal.returns-then-is_bad_used
unfolding check_by
returns-then-is_bad_used c = scanned_unsound (simp (sym c.is_bad_used.ensures ∙ c.if-is_bad_used.true))

pub scan_lines-requires : goal.scan_lines-requires
scan_lines-requires c = used_sound line_layout _ _ (sym c.is_bad_used.ensures ∙ c.if-is_bad_used.false)

pub returns : goal.returns
unfolding check_by
returns c = simp (sym c.is_bad_used.ensures ∙ c.if-is_bad_used.false) c.scan_lines.ensures
