-- The answer of a trivial commutation ("It refuses with 15 .." of request [3] of document 02), and how the code's answer reads as
-- it. Assumes nothing.
use Rattle.std.specs.Prelude.{ℕ, Result, Ok, Err}
use Rattle.refusals.specs.declared.Refusal.{Refusal}
use Rattle.refusals.specs.Numbers.{number}
use Rattle.factors.specs.declared.money.LumpPence.{LumpPence}

-- refusal 0 and the lump sum, or the refusal and none
pub record Commuted : Type 0 where
  pub refusal : ℕ
  pub lump : LumpPence

-- the answer of the code as these: a refusal by its number, with no lump
abbrev pub commuted_as : Result LumpPence Refusal → Commuted
commuted_as (Ok lump) = record { refusal = 0; lump = lump }
commuted_as (Err r) = record { refusal = number r; lump = record { 0 = 0 } }
