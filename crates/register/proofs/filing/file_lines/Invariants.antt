-- `file_lines` keeps that the lines passed have been filed (`Passed`), so that at the text's end all are.
use mathlib.Core.Path.{◌≡◌}
use lib.ListN.{length}
use Rattle.register.specs.Layout.{lent}
use Rattle.register.specs.Scan.{scanned_as, lines_left}
use Rattle.register.proofs.FileLoop.{Passed}
use Rattle.register.proofs.filing.file_lines.Given as goal

abbrev pub invariant-loop-line : goal.invariant-loop-line
invariant-loop-line l =
    (length l.register ≡ length l.initial.register)
    × Passed (lent l.initial.register l.used) l.first_number l.lines l.initial.refusals l.register l.refusals (scanned_as l.known) l.filled l.count (lines_left l.line-iterator)
