-- `digits_at` is the definition `number_at`, a digit at a time; eight digits fit its type.
use mathlib.Core.Path.{◌≡◌}
use Rattle.split.specs.Frame.{number_at}
use Rattle.split.proofs.frame.digits_at.Given as goal

abbrev pub invariant-loop-i : goal.invariant-loop-i
invariant-loop-i l = l.value ≡ number_at l.line l.at l.i
