-- `decode` goes block by block: the characters before the next block are decoded, after the loop at least those before the last
-- block, and after it all but the last character.
use native.Mathlib.Omega.{arith}
use Rattle.split.proofs.BytesLaws.{decoded_none, decoded_again, decoded_all}
use Rattle.split.proofs.FrameLaws.{no_digit_by}
use Rattle.split.proofs.frame.decode.Goals as goal

pub loop-block-init : goal.loop-block-init
loop-block-init c = decoded_none c.requires.2

pub decode_block-bad-requires-2 : goal.decode_block-bad-requires-2
decode_block-bad-requires-2 c = (omega arith, omega arith, decoded_again _ (omega arith) c.loop-block.invariant)

pub returns : goal.returns
returns c = decoded_all c.decode_block-bad-2.ensures (omega arith) (no_digit_by _ c.hex_value.ensures)
