-- Joined the other way round it is the same: the numbers are, what 16 asks of each is, and where 16 does not hold each number has the
-- same line. Assumes nothing.
use Prim.Native.Nat.{ℕ, ◌+◌, ◌<◌, min}
use mathlib.Core.Bool.{Bool, true, false, cond, not, ◌||◌, and_comm, or_comm, false≢true}
use mathlib.Core.List.{List, []}
use mathlib.Core.Path.{◌≡◌, refl, sym, ◌∙◌, ap}
use native.Mathlib.Nat.{min_comm, max_comm}
use native.Mathlib.Omega.{arith}
use lib.Dec.{eqb}
use lib.ListN.{length}
use lib.Seq.{ext_get_or}
use borrow.Author.Tests.{eqb-true}
use Rattle.calendar.specs.Tests.{any}
use Rattle.register.specs.Layout.{Register, used_lines, bytes_of}
use Rattle.joining.specs.Join.{holds, line_of, first_number, lower_first, higher_next, joined_numbers, joined_line, joined_lines, has_unlike, in_neither, not_joinable, is_too_short, not_valid, bad_register, cannot_join, no_room, join_refusal, joined_text, written_step, refused_step, join_step}
use Rattle.joining.specs.Claims.{EitherOrder}
use Rattle.joining.proofs.JoinLaws.{same_swapped, spanned, joined_count, joined_at, line_first, line_second, in_one, alike, faultless_each, answered, joins}

module _ (first second : List (List ℕ)) where
  pub lower_swapped : lower_first first second ≡ lower_first second first
  unfolding lower_first
  lower_swapped = go (eqb (first_number first) 0) refl (eqb (first_number second) 0) refl
    where
      go : (a : Bool) → eqb (first_number first) 0 ≡ a → (b : Bool) → eqb (first_number second) 0 ≡ b
          → cond a (first_number second) (cond b (first_number first) (min (first_number first) (first_number second)))
          ≡ cond b (first_number first) (cond a (first_number second) (min (first_number second) (first_number first)))
      go true e true f = eqb-true (first_number second) 0 f ∙ sym (eqb-true (first_number first) 0 e)
      go true e false f = refl
      go false e true f = refl
      go false e false f = min_comm (first_number first) (first_number second)

  pub higher_swapped : higher_next first second ≡ higher_next second first
  unfolding higher_next
  higher_swapped = max_comm _ _

  numbers_swapped : joined_numbers first second ≡ joined_numbers second first
  unfolding joined_numbers
  numbers_swapped = rw (lower_swapped, higher_swapped)

  unlike_swapped : (number : ℕ) → has_unlike first second number ≡ has_unlike second first number
  unfolding has_unlike
  unlike_swapped number =
      rw (and_comm (holds first number) (holds second number), same_swapped (line_of first number) (line_of second number))

  neither_swapped : (number : ℕ) → in_neither first second number ≡ in_neither second first number
  unfolding in_neither
  neither_swapped number = ap not (or_comm (holds first number) (holds second number))

  pub joinable_swapped : not_joinable first second ≡ not_joinable second first
  unfolding not_joinable
  joinable_swapped = λ i. any (λ number. unlike_swapped number i || neither_swapped number i) (numbers_swapped i)

  line_swapped : (number : ℕ) → (has_unlike first second number || in_neither first second number) ≡ false
      → joined_line first second number ≡ joined_line second first number
  line_swapped number fine = go (holds first number) refl (holds second number) refl
    where
      go : (a : Bool) → holds first number ≡ a → (b : Bool) → holds second number ≡ b
          → joined_line first second number ≡ joined_line second first number
      go true e true f =
          line_first first second number e ∙ alike first second number fine e f ∙ sym (line_first second first number f)
      go true e false f = line_first first second number e ∙ sym (line_second second first number f)
      go false e true f = line_second first second number e ∙ sym (line_first second first number f)
      go false e false f = absurd (false≢true (sym f ∙ in_one first second number fine e))

  pub lines_swapped : not_joinable first second ≡ false → joined_lines first second ≡ joined_lines second first
  lines_swapped none =
      let low = lower_swapped in
      let high = higher_swapped in
      ext_get_or [] (joined_lines first second) (joined_lines second first)
      (omega (arith, joined_count first second, joined_count second first))
      (λ k h.
      let i : k < spanned first second = omega (arith, joined_count first second) in
      joined_at first second k i ∙ line_swapped (lower_first first second + k) (faultless_each first second none k i)
      ∙ ap (λ (n : ℕ). joined_line second first (n + k)) low ∙ sym (joined_at second first k (omega arith)))

module _ (first second : Register) (target : List ℕ) where
  refusal_swapped : join_refusal first second target ≡ join_refusal second first target
  unfolding join_refusal
  refusal_swapped =
      ap (λ (b : Bool). cond (not_valid first) bad_register (cond (not_valid second) bad_register (cond b cannot_join (cond short no_room 0)))) (joinable_swapped ls ms)
      ∙ go (not_valid first) (not_valid second) (not_joinable ms ls) refl
    where
      ls : List (List ℕ)
      ls = used_lines first

      ms : List (List ℕ)
      ms = used_lines second

      short : Bool
      short = is_too_short (length target) (joined_lines ls ms)

      go : (a b n : Bool) → not_joinable ms ls ≡ n
          → ◌≡◌ {A = ℕ} (cond a bad_register (cond b bad_register (cond n cannot_join (cond short no_room 0))))
          (cond b bad_register (cond a bad_register (cond n cannot_join (cond (is_too_short (length target) (joined_lines ms ls)) no_room 0))))
      go true true n e = refl
      go true false n e = refl
      go false true n e = refl
      go false false true e = refl
      go false false false e =
          ap (λ (js : List (List ℕ)). cond (is_too_short (length target) js) no_room 0) (sym (lines_swapped ms ls e))

  pub join_swapped : EitherOrder first second target
  unfolding join_step joined_text
  join_swapped =
      go (eqb (join_refusal first second target) 0) refl
      ∙ ap (λ (n : ℕ). cond (eqb n 0) (written_step (bytes_of (joined_lines (used_lines second) (used_lines first))) target) (refused_step n target)) refusal_swapped
    where
      go : (b : Bool) → eqb (join_refusal first second target) 0 ≡ b
          → cond b (written_step (bytes_of (joined_lines (used_lines first) (used_lines second))) target) (refused_step (join_refusal first second target) target)
          ≡ cond b (written_step (bytes_of (joined_lines (used_lines second) (used_lines first))) target) (refused_step (join_refusal first second target) target)
      go true e =
          let fine = joins first second target (answered first second target ∙ eqb-true (join_refusal first second target) 0 e) in
          ap (λ (ls : List (List ℕ)). written_step (bytes_of ls) target)
          (lines_swapped (used_lines first) (used_lines second) fine.agree)
      go false e = refl
