-- `read_allowance_used` is the definition `allowance_used_at`: the number where the line goes on, and nothing where it ends.
use native.Mathlib.Omega.{arith}
use borrow.Author.Tests.{lt-ltb, le-ltb}
use Rattle.split.specs.Case.{allowance_used_at}
use Rattle.split.proofs.case.read_allowance_used.Goals as goal

pub returns-then-at-characters : goal.returns-then-at-characters
unfolding allowance_used_at
returns-then-at-characters c =
    λ s bytes within.
    rw (lt-ltb c.args.at.at c.args.characters c.if-at-characters.true)
    (c.number.ensures.value s bytes (omega (arith, c.number.ensures.next, c.requires.0 c.if-at-characters.true)))

pub returns-else-at-characters : goal.returns-else-at-characters
unfolding allowance_used_at
returns-else-at-characters c =
    λ s bytes within. rw (le-ltb c.args.at.at c.args.characters c.if-at-characters.false)
