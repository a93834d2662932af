-- `write_line` writes the figures of each share behind those that are written; then their digits are spelled, and the newline comes
-- last.
use Rattle.std.proofs.Common.{◌≡◌, ◌+◌, ◌-◌, ◌*◌, length, refl, ap, ◌∙◌, arith, length-take}
use Rattle.std.proofs.lemmas.Grind.{common_steps}
use Rattle.std.specs.Int.{w32, to_be_bytes}
use Rattle.split.specs.Quote.{no_share, as_quote}
use Rattle.register.specs.Line.{figures_of, header_figures, share_figures, text_length}
use Rattle.register.proofs.LineLoop.{next_whole, next_written, line_long, line_written}
use Rattle.register.proofs.layout.write_line.Goals as goal

pub loop-i-init : goal.loop-i-init
unfolding figures_of
loop-i-init c = record { whole = refl; written = grind (arith, common_steps) }

pub loop-i-preserved : goal.loop-i-preserved
loop-i-preserved c =
    let l = c.loop-i in
    let at = 12 + 12 * l.i in
    let part : length c.write_figures-in-loop-i.new.bytes ≡ 12 = ap length c.write_figures-in-loop-i.ensures in record {
      whole = next_whole l.bytes _ at (at + 12 - at) _ l.invariant.whole (omega (arith, l.invariant.whole)) (omega (arith, part));
      written =
          next_written (to_be_bytes w32) share_figures (header_figures (figures_of c.args.number (as_quote c.args.quote))) c.args.quote.shares
          no_share l.bytes _ _ _ _ l.i (omega arith) (omega (arith, l.invariant.whole)) (omega (arith, part)) l.invariant.written
          c.write_figures-in-loop-i.ensures;
    }

pub slice_bounds-write_digits-end : goal.slice_bounds-write_digits-end
unfolding text_length
slice_bounds-write_digits-end c = omega arith

pub bounds-line-120 : goal.bounds-line-120
unfolding text_length
bounds-line-120 c =
    let digits = c.write_digits.new.digits in
    let size : length digits ≡ text_length = c.write_digits.auto.digits ∙ simp length-take (omega (arith, c.requires.0)) in
    omega (arith, line_long digits c.args.line.now size c.requires.0)

pub returns : goal.returns
unfolding text_length figures_of
returns c =
    let l = c.loop-i in
    line_written (figures_of c.args.number (as_quote c.args.quote)) _ _ _ _ l.i c.requires.1 c.requires.0 (omega arith) (omega (arith, l.invariant.whole)) l.invariant.written c.write_digits.ensures
