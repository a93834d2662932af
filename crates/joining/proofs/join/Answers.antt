-- `join` is the definition `join_step`: both are checked, and the one that begins first is joined with the other, in either order.
use mathlib.Core.Path.{◌≡◌, refl, sym, ap}
use native.Mathlib.Omega.{arith}
use Rattle.std.proofs.lemmas.Result.{err_from_is_err_and}
use Rattle.register.specs.Answers.{Checked}
use Rattle.register.specs.Layout.{Register}
use Rattle.register.specs.Check.{check_of}
use Rattle.joining.proofs.JoinLaws.{first_unsound, second_unsound}
use Rattle.joining.proofs.PartsLaws.{same_step}
use Rattle.joining.proofs.Swapped.{join_swapped}
use Rattle.joining.proofs.join.Goals as goal

-- the refusal of a check, where the code knows it
told : (r : Register) (checked : Checked) → checked ≡ check_of r → (check_of r).refusal ≡ checked.refusal
told r checked e = ap (λ (k : Checked). k.refusal) (sym e)

pub returns-in_err-check : goal.returns-in_err-check
returns-in_err-check c =
    let e = err_from_is_err_and c.from_residual.result c.from_residual.ensures.1 in
    rw (e.1, e.2)
    (same_step _ _ _ _ (first_unsound _ _ _ (λ z. omega (arith, told _ _ c.in_err-check.ensures, z))) (refl, refl))

pub returns-in_err-check-2 : goal.returns-in_err-check-2
returns-in_err-check-2 c =
    let e = err_from_is_err_and c.from_residual-in_err-check-2.result c.from_residual-in_err-check-2.ensures.1 in
    rw (e.1, e.2)
    (same_step _ _ _ _
    (second_unsound _ _ _ (told _ _ c.in_ok-check.ensures) (λ z. omega (arith, told _ _ c.in_err-check-2.ensures, z))) (refl, refl))

pub returns-then-first_number : goal.returns-then-first_number
returns-then-first_number c = same_step _ _ _ _ (join_swapped _ _ _) c.join_ordered.ensures

pub returns : goal.returns
returns c = c.join_ordered-2.ensures
