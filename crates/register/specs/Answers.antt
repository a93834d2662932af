-- What the calls answer, as figures side by side, and how an answer of the code, which has a refusal in place of the figures, reads
-- as these. Assumes nothing.
use Rattle.std.specs.Prelude.{ℕ, Result, Ok, Err}
use Rattle.refusals.specs.declared.Refusal.{Refusal}
use Rattle.refusals.specs.Numbers.{number}
use Rattle.register.specs.declared.answers.Fault.{Fault}
use Rattle.register.specs.declared.answers.Extent.{Extent}
use Rattle.register.specs.declared.answers.FoundMember.{FoundMember}

-- what the check of a register finds: refusal 0 or 11, and with 11 the offset of what is bad
pub record Checked : Type 0 where
  pub refusal : ℕ
  pub offset : ℕ

-- what filing answers: refusal 0 and the used length past the new line, or the refusal and 0
pub record Filed : Type 0 where
  pub refusal : ℕ
  pub used : ℕ

-- where finding finds a line: refusal 0 with its offset and length in the register, or the refusal and zeros
pub record Located : Type 0 where
  pub refusal : ℕ
  pub offset : ℕ
  pub length : ℕ

-- What finding a member's newest line gives: where it is, or the refusal and zeros, and how many lines were compared, from the
-- newest back: 0 under 11, all lines under 14.
pub record LocatedMember : Type 0 where
  pub located : Located
  pub compared : ℕ

-- how the code's answer to each reads as it: the refusal by its number, and zeros beside it
abbrev pub checked_as : {A : Type 0} → Result A Fault → Checked
checked_as (Ok a) = record { refusal = 0; offset = 0 }
checked_as (Err fault) = record { refusal = 11; offset = fault.offset }

abbrev pub filed_as : Result ℕ Refusal → Filed
filed_as (Ok used) = record { refusal = 0; used = used }
filed_as (Err r) = record { refusal = number r; used = 0 }

abbrev pub located_as : Result Extent Refusal → Located
located_as (Ok at) = record { refusal = 0; offset = at.offset; length = at.length }
located_as (Err r) = record { refusal = number r; offset = 0; length = 0 }

abbrev pub located_member_as : FoundMember → LocatedMember
located_member_as found = record { located = located_as found.line; compared = found.compared }
