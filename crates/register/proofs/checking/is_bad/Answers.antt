-- `is_bad` is a digit's test before the newline's place and the newline's test at it: each branch by its own test.
use borrow.Author.Tests.{lt-ltb, le-ltb}
use Rattle.split.proofs.HexLaws.{no_digit}
use Rattle.register.specs.Line.{text_length}
use Rattle.register.proofs.checking.is_bad.Goals as goal

pub returns-then-place-lt-TEXT_LENGTH : goal.returns-then-place-lt-TEXT_LENGTH
unfolding text_length
returns-then-place-lt-TEXT_LENGTH c = simp (lt-ltb _ text_length c.if-place-lt-TEXT_LENGTH.true, no_digit, c.hex_value.ensures)

pub returns : goal.returns
unfolding text_length
returns c = simp (le-ltb _ text_length c.if-place-lt-TEXT_LENGTH.false)
