-- `find_number` gives the bytes where the line is located, which are the line found.
use mathlib.Core.Path.{◌∙◌}
use Rattle.register.specs.Layout.{line_layout}
use Rattle.register.proofs.FindLaws.{located_within}
use Rattle.register.proofs.finding.find_number.Goals as goal

pub bytes_at-requires : goal.bytes_at-requires
bytes_at-requires c = (located_within line_layout _ _ _ c.locate_number-line.ensures).inside

pub returns : goal.returns
returns c = c.bytes_at.ensures ∙ (located_within line_layout _ _ _ c.locate_number-line.ensures).line
