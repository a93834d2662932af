-- Filing: what a refusal of none says, an answer by its refusal, the number given, and text laid on bytes: a register whose used
-- part is a text grows by the next text, whatever they say. Assumes nothing.
use Prim.Native.Nat.{ℕ, ◌+◌, ◌-◌, ◌/◌, ◌≤◌, ◌<◌}
use mathlib.Core.Bool.{Bool, true, false, cond}
use mathlib.Core.List.{List, [], ◌∷◌, ◌++◌, append_assoc}
use mathlib.Core.Path.{◌≡◌, refl, sym, ◌∙◌, ap}
use native.Mathlib.Nat.{add-zero}
use native.Mathlib.Decide.{dec_lt}
use native.Mathlib.Omega.{arith}
use lib.Dec.{eqb}
use lib.ListN.{length, take, drop, length-append, length-drop, take-append-drop}
use lib.Seq.{take-append_seam, drop-append-add, drop-drop}
use borrow.Author.Tests.{eqb-true, eqb-false, ltb-false, leb-false, eq-eqb, ne_eqb}
use Rattle.calendar.specs.Tests.{lowest}
use Rattle.calendar.proofs.TestsLaws.{by_zero, none_holds}
use Rattle.split.specs.Frame.{number_at}
use Rattle.split.specs.Refusal.{refusal_of}
use Rattle.split.proofs.FrameLaws.{number_below, number_split}
use Rattle.register.specs.Answers.{Filed}
use Rattle.register.specs.Line.{line_for, number_in}
use Rattle.register.specs.Layout.{Register, lent, line_length, used_lines}
use Rattle.register.specs.Check.{following, number_after, next_number, wrong_number}
use Rattle.register.specs.File.{Filing, number_set, number_given, no_space, last_taken, refusal_given, file_refusal, filed_answer, text_filed, grown}
use Rattle.register.proofs.LineLaws.{number_back}
use Rattle.register.proofs.CheckLaws.{after_more, any_right, next_right}

-- what holds where no refusal applies
pub record Granted (f : Filing) (unsound : Bool) (buffer used : ℕ) (ls : List (List ℕ)) : Type 0 where
  pub accepted : refusal_of f.line ≡ 0
  pub sound : unsound ≡ false
  pub space : used + line_length ≤ buffer
  pub free : number_given ls f < 4294967296

pub refusal_none : (f : Filing) (unsound : Bool) (buffer used : ℕ) (ls : List (List ℕ)) → refusal_given f unsound buffer used ls ≡ 0
    → Granted f unsound buffer used ls
unfolding refusal_given
refusal_none f unsound buffer used ls = go (eqb (refusal_of f.line) 0) refl
  where
    states : List Bool
    states = unsound ∷ no_space buffer used ∷ last_taken ls f ∷ []

    go : (b : Bool) → eqb (refusal_of f.line) 0 ≡ b → cond b (lowest 11 states) (refusal_of f.line) ≡ 0
        → Granted f unsound buffer used ls
    go true accepted e =
        let none = none_holds 10 states e in
        record {
          accepted = eqb-true (refusal_of f.line) 0 accepted;
          sound = none 0;
          space = omega (arith, ltb-false (buffer - used) line_length (none 1));
          free = leb-false 4294967296 (number_given ls f) (none 2);
        }
    go false refused e = absurd (eqb-false (refusal_of f.line) 0 refused e)

-- an answer by its refusal
pub answer_granted : (x used : ℕ) → x ≡ 0 → filed_answer x used ≡ record { refusal = 0; used = used }
unfolding filed_answer
answer_granted x used e = simp (eq-eqb x 0 e)

pub answer_refused : (x used : ℕ) → (x ≡ 0 → ⊥) → filed_answer x used ≡ record { refusal = x; used = 0 }
unfolding filed_answer
answer_refused x used some = simp (ne_eqb x 0 some)

pub answer_refusal : (x used : ℕ) → (filed_answer x used).refusal ≡ x
unfolding filed_answer
answer_refusal x used = by_zero (λ (a : Filed). a.refusal ≡ x) x _ _ (λ e. sym e) (λ e. refl)

-- what is filed, by the refusal
pub text_granted : (r : Register) (f : Filing) → file_refusal r f ≡ 0 → text_filed r f ≡ line_for (number_given (used_lines r) f) f.line
unfolding text_filed
text_granted r f e = simp (eq-eqb (file_refusal r f) 0 e)

pub text_refused : (r : Register) (f : Filing) → (file_refusal r f ≡ 0 → ⊥) → text_filed r f ≡ []
unfolding text_filed
text_refused r f some = simp (ne_eqb (file_refusal r f) 0 some)

-- the number that a filing sets is never 0
set_positive : (f : Filing) → 0 < number_set f
unfolding number_set
set_positive f =
    elim (dec_lt 0 f.first) [
      | yes some ↦ simp (ne_eqb f.first 0 (omega arith)) (omega arith)
      | no none ↦ simp (eq-eqb f.first 0 (omega arith)) (omega arith)
    ]

-- the year of a date, of the number that its four bytes are
pub year_read : (c : List ℕ) (at : ℕ) → number_at c at 8 / 65536 ≡ number_at c at 4
year_read c at = omega (arith, number_split c at 4 4, number_below c (at + 4) 4)

-- the number given: in an empty register the one that the filing sets; it is right behind the lines, and the next is one more
pub given_first : (f : Filing) → number_given [] f ≡ number_set f
unfolding number_given number_after
given_first f = refl

module _ (ls : List (List ℕ)) (f : Filing) where
  pub given_right : wrong_number (next_number ls) (number_given ls f) ≡ false
  unfolding number_given
  given_right =
      by_zero (λ x. wrong_number (next_number ls) x ≡ false) (next_number ls) (number_set f) (next_number ls)
      (λ e. rw e (any_right (number_set f) (set_positive f))) (λ some. next_right (next_number ls) (omega (arith, some)))

  pub given_next : number_given ls f < 4294967296
      → next_number (ls ++ (line_for (number_given ls f) f.line ∷ [])) ≡ following (number_given ls f)
  given_next low =
      after_more 0 ls (line_for (number_given ls f) f.line) ∙ ap following (number_back (number_given ls f) f.line low)

  -- where a next number is known, it is given, whatever the filing's first number
  pub given_known : (n : ℕ) → next_number ls ≡ n → 0 < n → number_given ls f ≡ n
  unfolding number_given
  given_known n e h = simp (e, ne_eqb n 0 (omega arith))

-- behind a line the number given is one more than the line's, whatever the filing: a register that has lines ignores its first number
pub given_behind : (ls : List (List ℕ)) (l : List ℕ) (f : Filing) → number_given (ls ++ (l ∷ [])) f ≡ following (number_in l)
unfolding following
given_behind ls l f = given_known (ls ++ (l ∷ [])) f (number_in l + 1) (after_more 0 ls l) (omega arith)

-- a register grown by nothing
pub grown_none : (r : Register) → grown r [] ≡ r
grown_none r =
    let used : r.used + 0 ≡ r.used = add-zero r.used in
    λ i. record {
      bytes = (ap (λ (n : ℕ). take r.used r.bytes ++ drop n r.bytes) used ∙ take-append-drop r.used r.bytes) i;
      used = used i;
    }

-- a register whose used part is a text, on a ground that shows behind it
abbrev pub laid_on : List ℕ → List ℕ → Register
laid_on g t = lent (t ++ drop (length t) g) (length t)

pub grown_laid : (g t x : List ℕ) → grown (laid_on g t) x ≡ laid_on g (t ++ x)
grown_laid g t x = simp (take-append_seam, drop-append-add, drop-drop, length-append, append_assoc)

pub laid_length : (g t : List ℕ) → length t ≤ length g → length (laid_on g t).bytes ≡ length g
laid_length g t h = simp (length-append, length-drop) (omega arith)
