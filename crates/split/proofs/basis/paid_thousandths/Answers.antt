-- `paid_thousandths` is the definition `paid_thousandths`, branch by branch.
use native.Mathlib.Omega.{arith}
use Rattle.split.proofs.WorkingLaws.{paid_early, paid_whole}
use Rattle.split.proofs.basis.paid_thousandths.Goals as goal

pub returns-then-age-lt720 : goal.returns-then-age-lt720
returns-then-age-lt720 c =
    paid_early _ c.args.age _ _ c.requires (omega arith)
    c.months_to_sixtieth_birthday-months.ensures c.early_payment_factor.ensures

pub returns : goal.returns
returns c = paid_whole _ c.args.age c.requires (omega arith)
