-- What joining answers, as figures side by side, and how an answer of the code, which has a refusal in place of the figure, reads as
-- these. Assumes nothing.
use Rattle.std.specs.Prelude.{ℕ, Result, Ok, Err}
use Rattle.refusals.specs.declared.Refusal.{Refusal}
use Rattle.refusals.specs.Numbers.{number}

-- refusal 0 and the used length of the result, or the refusal and 0
pub record Written : Type 0 where
  pub refusal : ℕ
  pub used : ℕ

-- the refusal by its number, and 0 beside it
abbrev pub written_as : Result ℕ Refusal → Written
written_as (Ok used) = record { refusal = 0; used = used }
written_as (Err r) = record { refusal = number r; used = 0 }
