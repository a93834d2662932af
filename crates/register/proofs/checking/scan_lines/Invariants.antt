-- `scan_lines` finds what the check of the lines finds: the lines from `at` on answer for all; a line that passes the tests of its
-- number and of all its characters has no fault, and of any other the characters before `place` are good.
use Prim.Native.Nat.{ℕ, ◌-◌, ◌≤◌, ◌<◌}
use mathlib.Core.Bool.{false}
use mathlib.Core.Path.{◌≡◌}
use Rattle.register.specs.Line.{figure_width}
use Rattle.register.specs.Layout.{line_layout}
use Rattle.register.specs.Scan.{next_after}
use Rattle.register.proofs.LayoutLaws.{line_at}
use Rattle.register.proofs.CheckLaws.{number_inside, Good}
use Rattle.register.proofs.CheckLoop.{Left}
use Rattle.register.proofs.checking.scan_lines.Given as goal

-- a line's length as the code has it
abbrev pub lineSize : ℕ
lineSize = 121

abbrev pub invariant-loop-place : goal.invariant-loop-place
invariant-loop-place l =
    (l.place ≤ lineSize) × Good line_layout (line_at line_layout l.register l.at) l.place × (figure_width < l.place → l.wrong ≡ false)

abbrev pub invariant-lines : goal.invariant-lines
invariant-lines l = Left line_layout number_inside l.register l.used l.at (next_after l.last)

abbrev pub decreases-lines : goal.decreases-lines
decreases-lines l = l.used - l.at
