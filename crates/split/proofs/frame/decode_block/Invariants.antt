-- `decode_block` decodes the characters one by one: the first `at + i` of the line are decoded.
use Prim.Native.Nat.{◌+◌}
use Rattle.split.specs.Bytes.{Decoded}
use Rattle.split.proofs.frame.decode_block.Given as goal

abbrev pub invariant-loop-i : goal.invariant-loop-i
invariant-loop-i l = Decoded l.line l.bytes l.bad (l.at + l.i)
