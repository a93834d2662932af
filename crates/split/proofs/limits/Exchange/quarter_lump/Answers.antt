-- `quarter_lump` is the definition `quarter_lump`; E is at most 80, so a quarter of it is at most 20 pensions.
use mathlib.Core.Path.{refl}
use native.Mathlib.Omega.{arith}
use Rattle.split.specs.Benefits.{quarter_lump}
use Rattle.split.proofs.BenefitsLaws.{quarter_at_most}
use Rattle.split.proofs.limits.Exchange.quarter_lump.Goals as goal

pub returns : goal.returns
unfolding quarter_lump
returns c =
    (refl, omega (arith, quarter_at_most c.args.self.pension.0 c.args.self.factor c.args.self.ranged))
