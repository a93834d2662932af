-- `spell` makes each digit's character: what is made, with the values left made, is what all make.
use Rattle.std.proofs.Common.{◌≡◌, ◌++◌, take, drop}
use Rattle.register.specs.Scan.{spelled}
use Rattle.register.proofs.layout.spell.Given as goal

abbrev pub invariant-loop-digit : goal.invariant-loop-digit
invariant-loop-digit l = take l.digit-index l.digits ++ spelled (drop l.digit-index l.digits) ≡ spelled l.initial.digits
