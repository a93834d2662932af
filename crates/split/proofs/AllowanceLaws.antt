-- Laws of the allowance: what it allows of a lump is at most the lump and at most what is left; it is the whole lump where that
-- keeps the allowance, or more than is allowed is left. Assumes nothing.
use Prim.Native.Nat.{ℕ, ◌≤◌, ◌<◌}
use mathlib.Core.Bool.{true}
use mathlib.Core.Path.{◌≡◌, refl}
use native.Mathlib.Omega.{arith}
use Rattle.calendar.proofs.TestsLaws.{by_test}
use Rattle.split.specs.Allowance.{Allowance}
use Rattle.split.specs.Allowance.{KeepsAllowance, allowed}

module _ (a : Allowance) (lump : ℕ) where
  pub allowed_at_most : allowed a lump ≤ lump
  unfolding allowed
  allowed_at_most = by_test (λ x. x ≤ lump) a.applies _ _ (λ e. omega arith) (λ e. omega arith)

  pub allowed_keeps : KeepsAllowance a (allowed a lump)
  unfolding allowed
  allowed_keeps e = rw e (omega arith)

  pub allowed_kept : KeepsAllowance a lump → allowed a lump ≡ lump
  unfolding allowed
  allowed_kept keeps = by_test (λ x. x ≡ lump) a.applies _ _ (λ e. omega (arith, keeps e)) (λ e. refl)

  pub allowed_whole : (a.applies ≡ true → allowed a lump < a.left.0) → allowed a lump ≡ lump
  unfolding allowed
  allowed_whole less = by_test (λ x. x ≡ lump) a.applies _ _ (λ e. omega (arith, rw e at (less e))) (λ e. refl)

  -- of as much as is left, or more, just that
  pub allowed_left : a.applies ≡ true → a.left.0 ≤ lump → allowed a lump ≡ a.left.0
  unfolding allowed
  allowed_left e more = rw e (omega arith)

  -- of a lump that is cut, what is left of an allowance that applies
  pub allowed_short : allowed a lump < lump → (a.applies ≡ true) × (allowed a lump ≡ a.left.0)
  unfolding allowed
  allowed_short less =
      by_test (λ x. x < lump → (a.applies ≡ true) × (x ≡ a.left.0)) a.applies _ _ (λ e h. (e, omega arith))
      (λ e h. absurd (omega arith)) less
