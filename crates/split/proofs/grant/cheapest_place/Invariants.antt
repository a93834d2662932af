-- `cheapest_place` is the definition `cheapest`, from the last row back: `best` is the place in the rows from `i` on.
use Rattle.std.proofs.Common.{map}
use Rattle.split.specs.Working.{row_in}
use Rattle.split.proofs.GrantLoop.{Found}
use Rattle.split.proofs.grant.cheapest_place.Given as goal

abbrev pub invariant-loop-i : goal.invariant-loop-i
invariant-loop-i l = Found (map row_in l.rows) l.i l.best
