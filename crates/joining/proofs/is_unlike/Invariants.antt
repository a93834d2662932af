-- `is_unlike` tells whether characters differ: what the whole parts answer, the flag and the rest from a place on answer.
use mathlib.Core.Bool.{not, ◌||◌}
use mathlib.Core.Path.{◌≡◌}
use lib.ListN.{drop}
use Rattle.joining.specs.Join.{same_characters}
use Rattle.joining.proofs.is_unlike.Given as goal

abbrev pub invariant-loop-place : goal.invariant-loop-place
invariant-loop-place l =
    not (same_characters l.first l.second) ≡ (l.unlike || not (same_characters (drop l.place l.first) (drop l.place l.second)))
