-- `price` is the definition `price_of`; a quotient rounded up is small, and the ranges of E keep the sum within 64 bits.
use native.Mathlib.Omega.{arith}
use Rattle.split.specs.Limits.{price_of}
use Rattle.split.proofs.limits.Exchange.price.Goals as goal

pub returns : goal.returns
unfolding price_of
returns c = omega arith
