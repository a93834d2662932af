-- What is claimed of the refusals, of the lines themselves: 11 where a register is unsound; 16 where lines of one number differ or a
-- number between two lines is missing; none where neither is so and there is room, since then the lower first and the higher last
-- are numbers of lines, and the result has no more lines than the two together; 17 by the length of the result; and that a refusal
-- leaves the buffer. Assumes nothing.
use Prim.Native.Nat.{ℕ, ◌+◌, ◌-◌, ◌≤◌, ◌<◌}
use mathlib.Core.Bool.{Bool, true, false, cond, ◌||◌, true≢false}
use mathlib.Core.List.{List}
use mathlib.Core.Path.{◌≡◌, refl, sym, ◌∙◌, ap}
use mathlib.Core.Logic.{◌⊎◌, inl, inr, ⊎_elim}
use native.Mathlib.Decide.{dec_le}
use native.Mathlib.Omega.{arith}
use lib.Dec.{ltb, eqb}
use lib.ListN.{length}
use borrow.Author.Tests.{ltb-true, ltb-false, eqb-true, eqb-false}
use Rattle.calendar.proofs.TestsLaws.{not_true_false, by_test}
use Rattle.register.specs.Line.{number_in}
use Rattle.register.specs.Layout.{Register, used_lines, bytes_of}
use Rattle.register.specs.Check.{check_of}
use Rattle.register.specs.Steps.{Step}
use Rattle.joining.specs.Answers.{Written}
use Rattle.joining.specs.Join.{holds, first_number, lower_first, higher_next, joined_lines, has_unlike, in_neither, not_joinable, join_step, joined}
use Rattle.joining.specs.Claims.{LineIn, LineInOne, refusal_given, RefusalClaim}
use Rattle.joining.proofs.JoinLaws.{spanned, lacking, differing, no_fault, each_faultless, some_faulty, step_refused, first_unsound, second_unsound, apart, too_short, granted, answered, joins}
use Rattle.joining.proofs.Own.{lower_one, higher_one, own_line, own_found, own_first, own_last, one_bounds}
use Rattle.joining.proofs.Arranged.{no_longer}
use Rattle.joining.proofs.Swapped.{joinable_swapped, lines_swapped}
use Rattle.joining.proofs.Texts.{sound_register}

module _ (first second : Register) (target : List ℕ) where
  abbrev ls : List (List ℕ)
  ls = used_lines first

  abbrev ms : List (List ℕ)
  ms = used_lines second

  -- the refusal that a step gives
  told : (n used : ℕ) (t : List ℕ) → join_step first second target ≡ record { answer = record { refusal = n; used = used }; state = t }
      → refusal_given first second target ≡ n
  told n used t e = ap (λ (x : Step Written (List ℕ)). x.answer.refusal) e

  either_unsound : (((check_of first).refusal ≡ 0 → ⊥) ⊎ ((check_of second).refusal ≡ 0 → ⊥)) → refusal_given first second target ≡ 11
  either_unsound bad = go (eqb (check_of first).refusal 0) refl
    where
      go : (b : Bool) → eqb (check_of first).refusal 0 ≡ b → refusal_given first second target ≡ 11
      go false e = told 11 0 _ (first_unsound first second target (eqb-false _ 0 e))
      go true e =
          let good = eqb-true (check_of first).refusal 0 e in
          ⊎_elim (λ worse. absurd (worse good)) (λ worse. told 11 0 _ (second_unsound first second target good worse)) bad

  module _ (good : (check_of first).refusal ≡ 0) (good₂ : (check_of second).refusal ≡ 0) where
    bounds : (l : List ℕ) → LineInOne first second l → (lower_first ls ms ≤ number_in l) × (number_in l < higher_next ls ms)
    bounds = one_bounds first second good good₂

    -- 16 at a number between them
    faulty_at : (number : ℕ) → lower_first ls ms ≤ number → number < higher_next ls ms
        → (has_unlike ls ms number || in_neither ls ms number) ≡ true → refusal_given first second target ≡ 16
    faulty_at number low high bad =
        let back : lower_first ls ms + (number - lower_first ls ms) ≡ number = omega arith in
        told 16 0 _
        (apart first second target good good₂ (some_faulty ls ms (number - lower_first ls ms) (omega arith) (rw back bad)))

    unlike_lines : (l m : List ℕ) → LineIn first l → LineIn second m → number_in l ≡ number_in m → (l ≡ m → ⊥)
        → refusal_given first second target ≡ 16
    unlike_lines l m a b e other =
        let o = own_found first good l a in
        let p = own_found second good₂ m b in
        let q = rw (sym e) at p in
        let w = bounds l (inl a) in
        faulty_at (number_in l) w.0 w.1
        (differing ls ms (number_in l) o.0 q.0 (λ same. other (sym o.1 ∙ same ∙ q.1)))

    missing_number : (number : ℕ) (low high : List ℕ) → LineInOne first second low → LineInOne first second high
        → number_in low < number → number < number_in high → ((l : List ℕ) → LineInOne first second l → number_in l ≡ number → ⊥)
        → refusal_given first second target ≡ 16
    missing_number number low high a b below above nowhere =
        faulty_at number (omega (arith, bounds low a)) (omega (arith, bounds high b))
        (lacking ls ms number
        (not_true_false (holds ls number) (λ t. let o = own_line first good number t in nowhere _ (inl o.among) o.numbered))
        (not_true_false (holds ms number) (λ t. let o = own_line second good₂ number t in nowhere _ (inr o.among) o.numbered)))

    -- where there is a number, a line of either has the lowest and one the highest
    module _ (some : 0 < spanned ls ms) where
      lowest_line : (l : List ℕ) × LineInOne first second l × (number_in l ≡ lower_first ls ms)
      lowest_line =
          ⊎_elim (λ a. let o = own_first first good a.0 in (o.0, inl o.1, o.2 ∙ sym a.1))
          (λ a. let o = own_first second good₂ a.0 in (o.0, inr o.1, o.2 ∙ sym a.1)) (lower_one ls ms (omega arith))

      highest_line : (l : List ℕ) × LineInOne first second l × (number_in l + 1 ≡ higher_next ls ms)
      highest_line =
          ⊎_elim (λ a. let o = own_last first good a.0 in (o.0, inl o.1, o.2 ∙ sym a.1))
          (λ a. let o = own_last second good₂ a.0 in (o.0, inr o.1, o.2 ∙ sym a.1)) (higher_one ls ms (omega arith))

    -- the result is no longer than both
    fits_both : not_joinable ls ms ≡ false → length (bytes_of (joined_lines ls ms)) ≤ first.used + second.used
    fits_both none =
        let one = sound_register first.bytes first.used good in
        let other = sound_register second.bytes second.used good₂ in
        elim (dec_le (first_number ls) (first_number ms)) [
          | yes h ↦ omega (arith, no_longer ls ms one.lines other.lines h none, one.part.size, other.part.size)
          | no h ↦
              omega (
                arith,
                ap (λ (js : List (List ℕ)). length (bytes_of js)) (lines_swapped ls ms none),
                no_longer ms ls other.lines one.lines (omega arith) (sym (joinable_swapped ls ms) ∙ none),
                one.part.size,
                other.part.size,
              )
        ]

    module _ (same : (l m : List ℕ) → LineIn first l → LineIn second m → number_in l ≡ number_in m → l ≡ m)
        (between : (number : ℕ) (low high : List ℕ) → LineInOne first second low → LineInOne first second high
        → number_in low ≤ number → number ≤ number_in high → (l : List ℕ) × LineInOne first second l × (number_in l ≡ number)) where
      in_other : (number : ℕ) (l : List ℕ) → LineInOne first second l → number_in l ≡ number → holds ls number ≡ false
          → holds ms number ≡ true
      in_other number l among e lacks =
          ⊎_elim (λ a. absurd (true≢false (sym (rw e at (own_found first good l a).0) ∙ lacks)))
          (λ a. rw e at (own_found second good₂ l a).0) among

      agree : not_joinable ls ms ≡ false
      agree =
          each_faultless ls ms
          (λ k h.
          let low = lowest_line (omega arith) in
          let high = highest_line (omega arith) in
          let f = between (lower_first ls ms + k) low.0 high.0 low.1 high.1 (omega arith) (omega arith) in
          no_fault ls ms (lower_first ls ms + k) (in_other (lower_first ls ms + k) f.0 f.1 f.2)
          (λ a b.
          let o = own_line first good (lower_first ls ms + k) a in
          let p = own_line second good₂ (lower_first ls ms + k) b in
          same _ _ o.among p.among (o.numbered ∙ sym p.numbered)))

      not_refused : first.used + second.used ≤ length target → refusal_given first second target ≡ 0
      not_refused room = told 0 _ _ (granted first second target good good₂ agree (omega (arith, fits_both agree)))

-- a refusal leaves the buffer
refused_untouched : (first second : Register) (target : List ℕ) → (refusal_given first second target ≡ 0 → ⊥)
    → ((joined first second target).used ≡ 0) × ((joined first second target).bytes ≡ target)
refused_untouched first second target some =
    let e = step_refused first second target _ refl (λ z. some (answered first second target ∙ z)) in (
      ap (λ (x : Step Written (List ℕ)). x.answer.used) e,
      ap (λ (x : Step Written (List ℕ)). x.state) e,
    )

-- another buffer
other_short : (first second : Register) (target other : List ℕ) → refusal_given first second target ≡ 0
    → refusal_given first second other ≡ cond (ltb (length other) (joined first second target).used) 17 0
other_short first second target other none =
    let fine = joins first second target none in
    let size =
    ap (λ (x : Step Written (List ℕ)). x.answer.used)
    (granted first second target fine.first_sound fine.second_sound fine.agree fine.room)
    in
    by_test (λ (n : ℕ). refusal_given first second other ≡ n) (ltb (length other) (joined first second target).used) 17 0
    (λ e.
    let h = ltb-true (length other) (joined first second target).used e in
    told first second other 17 0 _
    (too_short first second other fine.first_sound fine.second_sound fine.agree (omega (arith, size))))
    (λ e.
    let h = ltb-false (length other) (joined first second target).used e in
    told first second other 0 _ _
    (granted first second other fine.first_sound fine.second_sound fine.agree (omega (arith, size))))

pub refusal_claim : (first second : Register) (target : List ℕ) → RefusalClaim first second target
refusal_claim first second target = record {
  unsound_either = either_unsound first second target;
  unlike = unlike_lines first second target;
  missing = missing_number first second target;
  joinable = not_refused first second target;
  short = other_short first second target;
  untouched = refused_untouched first second target;
}
