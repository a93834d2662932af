-- Laws of the definitions that serve the contracts of private functions. Assumes nothing.
use Prim.Native.Nat.{ℕ, ◌+◌, ◌-◌, ◌≤◌, ◌<◌}
use mathlib.Core.List.{List, ◌++◌, append_assoc}
use mathlib.Core.Path.{◌≡◌, refl, sym, ◌∙◌, ap}
use native.Mathlib.Omega.{arith}
use lib.ListN.{length, drop, length-append}
use lib.Seq.{take-append_seam, drop-append_seam, drop-drop}
use borrow.Rule.Slice.PartMut.{put_mid, post_of}
use borrow.Author.Tests.{lt-ltb, le-ltb, eq-eqb, ne_eqb}
use Rattle.register.specs.Steps.{Step}
use Rattle.joining.specs.Answers.{Written}
use Rattle.joining.specs.Join.{first_number, no_room, refused_answer}
use Rattle.joining.specs.Parts.{lines_before, write_step}

-- what is answered and left by a step that is another's
pub same_step : (step other : Step Written (List ℕ)) (r : Written) (t : List ℕ) → step ≡ other
    → (r ≡ other.answer) × (t ≡ other.state) → (r ≡ step.answer) × (t ≡ step.state)
same_step step other r t e p = rw e p

-- the lines before, by the two first numbers
module _ (low high : List (List ℕ)) (p q : ℕ) (first : p ≡ first_number low) (second : q ≡ first_number high) where
  pub before_none : p ≡ 0 → 0 ≡ lines_before low high
  unfolding lines_before
  before_none e = simp (eq-eqb (first_number low) 0 (sym first ∙ e))

  pub before_some : (p ≡ 0 → ⊥) → q - p ≡ lines_before low high
  unfolding lines_before
  before_some some = simp (ne_eqb (first_number low) 0 (λ e. some (first ∙ e)), first, second)

-- a text of two parts, written where there is room and not where there is none: what the code answers and leaves
module _ (first second target : List ℕ) where
  abbrev step : Step Written (List ℕ)
  step = write_step (first ++ second) target

  pub write_short : (r : Written) → length target < length first + length second → r ≡ refused_answer no_room
      → (r ≡ step.answer) × (target ≡ step.state)
  unfolding write_step
  write_short r h e = simp (length-append, lt-ltb (length target) (length first + length second) h) (e, refl)

  pub write_fits : length first + length second ≤ length target → (x y : List ℕ) → x ≡ first → y ≡ second
      → (record { refusal = 0; used = length first + length second } ≡ step.answer)
      × (put_mid (length first) (length first + length second - length first) (x ++ post_of 0 (length first - 0) target) y ≡ step.state)
  unfolding write_step
  write_fits h x y e f =
      let rest : length first + length second - length first ≡ length second = omega arith in
      let past : 0 + (length first - 0) + length second ≡ 0 + (length first + length second) = omega arith in
      simp (
        e,
        f,
        rest,
        length-append,
        le-ltb (length target) (length first + length second) h,
        take-append_seam,
        drop-append_seam,
        drop-drop,
        append_assoc,
      )
      (refl, ap (λ (n : ℕ). first ++ (second ++ drop n target)) past)
