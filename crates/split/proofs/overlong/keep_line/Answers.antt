-- `keep_line` keeps what the definition `kept_line` keeps, by the laws of characters moved and of the others.
use Prim.Native.Nat.{◌+◌, ◌-◌}
use mathlib.Core.Path.{sym, ◌∙◌}
use native.Mathlib.Omega.{arith}
use lib.ListN.{length}
use Rattle.split.proofs.OverlongLaws.{bad_part, kept_count, kept_as_read, kept_made_bad, kept_stands}
use Rattle.split.proofs.overlong.keep_line.Goals as goal

pub returns-else-bad-clause-count : goal.returns-else-bad-clause-count
returns-else-bad-clause-count c = kept_count _ _ _ _ _ c.min-start.ensures c.min-kept.ensures c.copy_within.ensures.after

pub returns-else-bad-clause-written : goal.returns-else-bad-clause-written
returns-else-bad-clause-written c =
    kept_as_read _ _ _ _ _ c.min-start.ensures c.min-kept.ensures c.copy_within.ensures.after
    (sym c.has_bad_character-bad.ensures ∙ c.if-bad.false)

pub returns-else-bad-clause-quoted : goal.returns-else-bad-clause-quoted
returns-else-bad-clause-quoted c =
    kept_stands _ _ _ _ (returns-else-bad-clause-count c) (returns-else-bad-clause-written c)

-- a bad character among the others: the text has characters
pub bounds-text-0 : goal.bounds-text-0
bounds-text-0 c =
    let text = c.args.text.now in
    let cut = c.min-start.result + c.min-kept.result in
    omega (arith, bad_part (length text - cut) cut text (sym c.has_bad_character-bad.ensures ∙ c.if-bad.true), c.copy_within.ensures.len)

pub returns-then-bad-clause-count : goal.returns-then-bad-clause-count
returns-then-bad-clause-count c = kept_count _ _ _ _ _ c.min-start.ensures c.min-kept.ensures c.copy_within.ensures.after

pub returns-then-bad-clause-written : goal.returns-then-bad-clause-written
returns-then-bad-clause-written c =
    kept_made_bad _ _ _ _ _ c.min-start.ensures c.min-kept.ensures c.copy_within.ensures.after
    (sym c.has_bad_character-bad.ensures ∙ c.if-bad.true)

pub returns-then-bad-clause-quoted : goal.returns-then-bad-clause-quoted
returns-then-bad-clause-quoted c =
    kept_stands _ _ _ _ (returns-then-bad-clause-count c) (returns-then-bad-clause-written c)
