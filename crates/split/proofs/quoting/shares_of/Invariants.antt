-- `shares_of` stores the shares one by one: the first `i` are those of the first `i` rows.
use Rattle.std.proofs.Common.{◌≡◌, ◌-◌, ◌++◌, map, take, replicate}
use Rattle.split.specs.Quote.{no_share}
use Rattle.split.specs.Working.{share_in}
use Rattle.split.proofs.quoting.shares_of.Given as goal

abbrev pub invariant-loop-i : goal.invariant-loop-i
invariant-loop-i l = l.shares ≡ map share_in (take l.i l.rows) ++ replicate (4 - l.i) no_share
