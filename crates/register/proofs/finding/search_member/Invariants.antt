-- `search_member` gives the place of the member's last line and how many lines it compared: what all lines answer, those answer that
-- the chunks from the back have left.
use Prim.Native.Nat.{◌/◌}
use mathlib.Core.Path.{◌≡◌}
use lib.ListN.{length}
use Rattle.register.specs.Layout.{line_layout, line_length}
use Rattle.register.specs.Find.{has_member}
use Rattle.register.proofs.FindLoop.{Back}
use Rattle.register.proofs.finding.search_member.Given as goal

abbrev pub invariant-loop-newer : goal.invariant-loop-newer
invariant-loop-newer l =
    (goal.iterator-loop-newer).can_next l.newer-iterator × (goal.iterator-loop-newer).is_finite l.newer-iterator
    × (l.newer-iterator.iter.size ≡ line_length)
    × Back line_layout (has_member l.member) l.lines (length l.lines / line_length) l.newer-iterator.count l.newer-iterator.iter.rest.now
