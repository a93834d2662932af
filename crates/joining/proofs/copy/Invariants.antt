-- `copy` goes along a part: the characters passed stand at the other's start.
use Rattle.std.proofs.Common.{◌≡◌, take}
use Rattle.joining.proofs.copy.Given as goal

abbrev pub invariant-loop-place : goal.invariant-loop-place
invariant-loop-place l = take l.place l.to ≡ take l.place l.from
