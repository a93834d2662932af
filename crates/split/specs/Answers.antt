-- The quote of a case line, as definitions and claims speak of it ("Split" and "Refusals from the input" of document 01). Assumes
-- nothing.
use Rattle.std.specs.Prelude.{ℕ, List}
use Rattle.factors.specs.declared.money.LumpPence.{LumpPence}
use Rattle.split.specs.declared.answers.Share.{Share}

-- refusal 0 is a grant; under any other all figures are zero (see `refused_quote`)
pub record Quote : Type 0 where
  pub refusal : ℕ
  pub member : ℕ
  pub total : LumpPence
  pub shares : List Share
