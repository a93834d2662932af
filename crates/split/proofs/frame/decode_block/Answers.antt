-- `decode_block` decodes the characters one by one: the first `at + i` of the line are decoded.
use native.Mathlib.Nat.{add_assoc}
use native.Mathlib.Omega.{arith}
use Rattle.split.proofs.BytesLaws.{decoded_more}
use Rattle.split.proofs.FrameLaws.{no_digit_by}
use Rattle.split.proofs.frame.decode_block.Goals as goal

pub loop-i-preserved : goal.loop-i-preserved
loop-i-preserved c =
    rw (← add_assoc)
    (decoded_more c.loop-i.invariant (omega arith) (omega arith) (no_digit_by _ c.hex_value.ensures)
    c.digit_value.ensures.1 c.digit_value-in-loop-i.ensures.1)
