-- `find_member` gives the bytes where the line is located, which are the line found.
use mathlib.Core.Path.{◌∙◌}
use Rattle.register.specs.Layout.{line_layout}
use Rattle.register.proofs.FindLaws.{member_within}
use Rattle.register.proofs.finding.find_member.Goals as goal

pub bytes_at-requires : goal.bytes_at-requires
bytes_at-requires c = (member_within line_layout _ _ _ c.locate_member-found.ensures).inside

pub returns : goal.returns
returns c = c.bytes_at.ensures ∙ (member_within line_layout _ _ _ c.locate_member-found.ensures).line
