-- Two sound registers of which the second does not begin before the first, in the code's numbers: what is joined where there is a
-- gap, where the parts that both have differ, and where they do not. Assumes nothing.
use Prim.Native.Nat.{ℕ, ◌+◌, ◌-◌, ◌*◌, ◌/◌, ◌≤◌, ◌<◌, min}
use mathlib.Core.Bool.{Bool, true, false, not, false≢true}
use mathlib.Core.List.{List, ◌++◌}
use mathlib.Core.Path.{◌≡◌, refl, sym, ◌∙◌, ap}
use native.Mathlib.Nat.{add-mul, zero-mul}
use native.Mathlib.Omega.{arith}
use lib.ListN.{length, take, drop, length-drop}
use lib.Seq.{take_all}
use borrow.Author.Tests.{not-false}
use Rattle.register.specs.Layout.{lent, line_layout, line_length, used_lines, bytes_of}
use Rattle.register.specs.Steps.{Step}
use Rattle.joining.specs.Answers.{Written}
use Rattle.joining.specs.Join.{same_characters, not_joinable, cannot_join, refused_answer, join_step}
use Rattle.joining.specs.Parts.{Ordered, lines_before, write_step}
use Rattle.joining.proofs.JoinLaws.{equal_same, same_equal, apart, written}
use Rattle.joining.proofs.Arranged.{gap, alike_lines, alike_joins, arranged}
use Rattle.joining.proofs.PartsLaws.{same_step}
use Rattle.joining.proofs.Texts.{bytes_append, whole_take, whole_drop, same_lines, Sound, sound_register, lines_part, used_text}

module _ (s : List ℕ) (used : ℕ) (t : List ℕ) (used₂ : ℕ) (target : List ℕ) (ordered : Ordered (lent s used) (lent t used₂)) where
  abbrev low : List (List ℕ)
  low = used_lines (lent s used)

  abbrev high : List (List ℕ)
  high = used_lines (lent t used₂)

  abbrev step : Step Written (List ℕ)
  step = join_step (lent s used) (lent t used₂) target

  one : Sound s used
  one = sound_register s used ordered.low_sound

  other : Sound t used₂
  other = sound_register t used₂ ordered.high_sound

  pub both_inside : (used ≤ length s) × (used₂ ≤ length t)
  both_inside = (one.inside, other.inside)

  -- what the code answers and leaves where it refuses with 16
  not_joined : (r : Written) → r ≡ refused_answer cannot_join → not_joinable low high ≡ true
      → (r ≡ step.answer) × (target ≡ step.state)
  not_joined r e bad =
      same_step step _ r target (apart (lent s used) (lent t used₂) target ordered.low_sound ordered.high_sound bad) (e, refl)

  module _ (before : ℕ) (behind : before ≡ lines_before low high) where
    pub gap_refused : (r : Written) → r ≡ refused_answer cannot_join → used / line_length < before
        → (r ≡ step.answer) × (target ≡ step.state)
    gap_refused r e h =
        not_joined r e (gap low high one.lines other.lines ordered.order (omega (arith, one.count)))

    module _ (meet : before ≤ used / line_length) (n : ℕ) (shared : n ≡ min (used / line_length - before) (used₂ / line_length)) where
      -- the parts that are compared
      abbrev part_of_low : List ℕ
      part_of_low = take (before * line_length + n * line_length - before * line_length) (drop (before * line_length) s)

      abbrev part_of_high : List ℕ
      part_of_high = take (n * line_length - 0) (drop 0 t)

      low_part : part_of_low ≡ bytes_of (take n (drop before low))
      low_part =
          let e : before * line_length + n * line_length - before * line_length ≡ n * line_length = omega arith in
          ap (λ (k : ℕ). take k (drop (before * line_length) s)) e ∙ lines_part s used one before n (omega arith)

      high_part : part_of_high ≡ bytes_of (take n high)
      high_part =
          let e : n * line_length - 0 ≡ n * line_length = omega arith in
          ap (λ (k : ℕ). take k t) e ∙ ap (λ (k : ℕ). take (n * line_length) (drop k t)) (sym (zero-mul line_length))
          ∙ lines_part t used₂ other 0 n (omega arith)

      same : min (length low - lines_before low high) (length high) ≡ n
      same = omega (arith, one.count, other.count)

      meets : lines_before low high ≤ length low
      meets = omega (arith, one.count)

      -- the parts are equal where 16 does not hold, and where they are equal the lines of both are alike
      parts_equal : not_joinable low high ≡ false → part_of_low ≡ part_of_high
      parts_equal none =
          let e : take n (drop before low) ≡ take n high =
          rw (behind, ← same) (alike_lines low high one.lines other.lines ordered.order meets none)
          in
          low_part ∙ ap bytes_of e ∙ sym high_part

      lines_alike : part_of_low ≡ part_of_high
          → take (min (length low - lines_before low high) (length high)) (drop (lines_before low high) low)
          ≡ take (min (length low - lines_before low high) (length high)) high
      lines_alike e =
          rw (same, ← behind)
          (same_lines line_layout _ _ (whole_take line_layout n _ (whole_drop line_layout before low one.part.whole))
          (whole_take line_layout n high other.part.whole) (sym low_part ∙ e ∙ high_part))

      pub unlike_refused : (r : Written) → r ≡ refused_answer cannot_join → not (same_characters part_of_low part_of_high) ≡ true
          → (r ≡ step.answer) × (target ≡ step.state)
      unlike_refused r e differ = not_joined r e (go (not_joinable low high) refl)
        where
          go : (b : Bool) → not_joinable low high ≡ b → b ≡ true
          go true f = refl
          go false f = absurd (false≢true (sym (ap not (equal_same _ _ (parts_equal f))) ∙ differ))

      -- the parts that are written
      low_text : bytes_of low ≡ take (used - 0) (drop 0 s)
      low_text =
          let e : used ≡ used - 0 = omega arith in
          used_text s used one ∙ ap (λ (k : ℕ). take k s) e

      high_text : bytes_of (drop n high) ≡ take (used₂ - n * line_length) (drop (n * line_length) t)
      high_text =
          let left = used₂ / line_length - n in
          let back : left + n ≡ used₂ / line_length = omega arith in
          let e : left * line_length ≡ used₂ - n * line_length =
          omega (arith, add-mul left n line_length, ap (λ (k : ℕ). k * line_length) back, other.filled)
          in
          ap bytes_of (sym (take_all left (drop n high) (simp length-drop (omega (arith, other.count)))))
          ∙ sym (lines_part t used₂ other n left (omega arith)) ∙ ap (λ (k : ℕ). take k (drop (n * line_length) t)) e

      pub alike_written : not (same_characters part_of_low part_of_high) ≡ false
          → step ≡ write_step (take (used - 0) (drop 0 s) ++ take (used₂ - n * line_length) (drop (n * line_length) t)) target
      alike_written e =
          let alike = lines_alike (same_equal part_of_low part_of_high (not-false (same_characters part_of_low part_of_high) e)) in
          let joins = alike_joins low high one.lines other.lines ordered.order meets alike in
          let lines = arranged low high one.lines other.lines ordered.order meets alike in
          written (lent s used) (lent t used₂) target ordered.low_sound ordered.high_sound joins
          ∙ ap (λ (x : List ℕ). write_step x target)
          (ap bytes_of lines ∙ ap (λ (k : ℕ). bytes_of (low ++ drop k high)) same ∙ bytes_append low (drop n high)
          ∙ (λ i. low_text i ++ high_text i))
