-- `shares_of` stores the shares one by one: the first `i` are those of the first `i` rows.
use Rattle.std.proofs.Common.{◌≡◌, map, take, length, ◌∙◌, arith}
use Rattle.std.proofs.lemmas.List.{map_more, length-take-le}
use Rattle.std.proofs.Math.ListN.{length-map}
use Rattle.split.specs.Quote.{no_share}
use Rattle.split.specs.Working.{no_row, share_in}
use Rattle.split.proofs.ListLoop.{store_next}
use Rattle.split.proofs.quoting.shares_of.Goals as goal

pub loop-i-preserved : goal.loop-i-preserved
loop-i-preserved c =
    let l = c.loop-i in
    let rows = c.args.rows.now in
    let counted : length (map share_in (take l.i rows)) ≡ l.i =
    length-map (take l.i rows) share_in ∙ length-take-le l.i rows (omega (arith, c.loop-i-test.true))
    in
    rw (c.share_of.ensures, l.invariant, map_more share_in rows l.i no_row c.loop-i-test.true)
    (store_next (map share_in (take l.i rows)) 4 l.i _ no_share counted (omega (arith, c.loop-i-test.true, c.requires.few)))
