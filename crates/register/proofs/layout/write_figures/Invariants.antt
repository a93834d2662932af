-- `write_figures` writes figures one after the other: the bytes of those passed stand at the start.
use Rattle.std.proofs.Common.{◌≡◌, ◌*◌, take}
use Rattle.register.specs.Scan.{figure_bytes, figures_bytes}
use Rattle.register.proofs.layout.write_figures.Given as goal

abbrev pub invariant-loop-i : goal.invariant-loop-i
invariant-loop-i l = take (figure_bytes * l.i) l.bytes ≡ figures_bytes (take l.i l.figures)
