-- `write_line` writes the bytes of the line's figures: those of the header and of the shares passed stand at the start.
use Rattle.std.proofs.Common.{◌≡◌, ◌+◌, ◌*◌, ◌++◌, length, take}
use Rattle.std.specs.List.{flat_map}
use Rattle.split.specs.Quote.{as_quote}
use Rattle.register.specs.Line.{figures_of, header_figures, share_figures}
use Rattle.register.specs.Scan.{figure_bytes, figures_bytes}
use Rattle.register.proofs.layout.write_line.Given as goal

abbrev pub invariant-loop-i : goal.invariant-loop-i
invariant-loop-i l = record {
  whole : length l.bytes ≡ length l.initial.bytes;
  written :
      take (3 * figure_bytes + 3 * figure_bytes * l.i) l.bytes
      ≡ figures_bytes (header_figures (figures_of l.fn.number (as_quote l.fn.quote)) ++ flat_map share_figures (take l.i l.fn.quote.shares));
}
