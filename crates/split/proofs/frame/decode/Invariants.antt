-- `decode` goes block by block: the characters before the next block are decoded, after the loop at least those before the last
-- block, and after it all but the last character.
use Prim.Native.Nat.{◌*◌}
use Rattle.split.specs.Bytes.{block_length, Decoded}
use Rattle.split.proofs.frame.decode.Given as goal

abbrev pub invariant-loop-block : goal.invariant-loop-block
invariant-loop-block l = Decoded l.line l.bytes l.bad (l.block * block_length)
