-- `after_lump` is the definition `after_lump`, where the allowance applies and where not.
use Rattle.std.proofs.Common.{ℕ, ◌≡◌, ◌-◌, true, false, Option, Some, None, MatchOption, IsSomeAnd, arith, rules}
use Rattle.factors.specs.declared.money.LumpPence.{LumpPence}
use Rattle.split.specs.Allowance.{after_lump}
use Rattle.split.specs.Working.{allowance_by}
use Rattle.split.proofs.allowance.after_lump.Goals as goal

drawn : (a r : Option LumpPence) (lump : ℕ) → MatchOption a (r ≡ None) (λ x. IsSomeAnd r (λ y. y.0 ≡ x.0 - lump))
    → allowance_by r ≡ after_lump (allowance_by a) lump
unfolding after_lump
drawn None r lump m =
    let none : 0 ≡ 0 - lump = omega arith in
    rw m (λ i. record { applies = false; left = record { 0 = none i } })
drawn (Some x) None lump m = absurd m
drawn (Some x) (Some y) lump m = λ i. record { applies = true; left = record { 0 = m i } }

pub returns : goal.returns
returns c =
    let m : MatchOption c.args.allowance (c.map.result ≡ None) (λ x. IsSomeAnd c.map.result (λ y. y.0 ≡ x.0 - c.args.lump.0)) = search rules in
    drawn _ _ _ m
