-- Bounds that the functions of the program keep. Assumes nothing.
use Rattle.std.specs.Prelude.{ℕ}

-- the bytes of a block of input
abbrev pub input_length : ℕ
input_length = 262144

-- the bytes of the register
abbrev pub register_length : ℕ
register_length = 65536

-- the bytes that may wait to be written
abbrev pub output_length : ℕ
output_length = 65536
