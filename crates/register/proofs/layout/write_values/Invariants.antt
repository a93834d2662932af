-- `write_values` writes the values of each byte's two digits: those of the bytes passed stand at the start.
use Rattle.std.proofs.Common.{◌≡◌, ◌*◌, take}
use Rattle.register.specs.Scan.{byte_digits, byte_values}
use Rattle.register.proofs.layout.write_values.Given as goal

abbrev pub invariant-loop-i : goal.invariant-loop-i
invariant-loop-i l = take (byte_digits * l.i) l.digits ≡ byte_values (take l.i l.bytes)
