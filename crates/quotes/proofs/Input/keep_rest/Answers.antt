-- What is kept of a line has its room: it is no more than one character past the longest case line.
use Rattle.split.proofs.OverlongLaws.{kept_at_most}
use Rattle.quotes.proofs.Input.keep_rest.Goals as goal

pub invariant_of-self : goal.invariant_of-self
invariant_of-self c = record { room = rw c.keep_line-self.ensures.count (kept_at_most _) }
