-- `allowance_of` is the definition `allowance_of`, on either side of the date, by what its calls promise.
use mathlib.Core.Bool.{true}
use mathlib.Core.Path.{refl}
use Rattle.split.specs.Allowance.{allowance_of}
use Rattle.split.proofs.allowance.allowance_of.Goals as goal

pub returns-then-early : goal.returns-then-early
unfolding allowance_of
returns-then-early c = rw (← c.is_earlier-early.ensures, c.if-early.true) refl

pub returns-else-early : goal.returns-else-early
unfolding allowance_of
returns-else-early c =
    rw (← c.is_earlier-early.ensures, c.if-early.false)
    (λ i. record { applies = true; left = record { 0 = c.left_of-left.ensures i } })
