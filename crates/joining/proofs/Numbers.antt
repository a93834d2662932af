-- Lines by their numbers: the first of those cut from a register begins its bytes; the first number of sound lines is at least 1, a
-- number from it on is at its distance from it, and the number behind them is the first plus their count; and lines with good
-- characters whose numbers rise by one check sound. By induction on the lines. Assumes nothing.
use Prim.Native.Nat.{ℕ, suc, ◌+◌, ◌-◌, ◌/◌, ◌≤◌, ◌<◌}
use mathlib.Core.Bool.{true, false, true≢false}
use mathlib.Core.List.{List, [], ◌∷◌}
use mathlib.Core.Path.{◌≡◌, refl, sym, ◌∙◌, ap}
use native.Mathlib.Decide.{dec_lt}
use native.Mathlib.Nat.{div-eq_of_lt, le-div_iff_mul-le}
use native.Mathlib.Omega.{arith}
use lib.ListN.{length, get_or}
use borrow.Author.Tests.{lt-ltb, le-ltb, eq-eqb}
use Rattle.split.specs.Frame.{number_at}
use Rattle.register.specs.Line.{figure_width, number_in}
use Rattle.register.specs.Layout.{lent, cut_lines, used_lines, line_layout, line_length}
use Rattle.register.specs.Check.{following, number_after, wrong_number, check_lines_by, check_lines}
use Rattle.register.specs.Find.{has_number}
use Rattle.register.specs.Scan.{SoundLines}
use Rattle.register.proofs.LayoutLaws.{cut_count}
use Rattle.register.proofs.CheckLaws.{Good, number_inside, next_right, fault_number, fault_late, sound_good, sound_number}
use Rattle.register.proofs.FindLaws.{last_line, number_before, number_found, number_past}
use Rattle.register.proofs.FindLoop.{first_line_number}
use Rattle.joining.specs.Join.{holds, line_of, first_number}

-- the first number is the first line's
pub first_line : (ls : List (List ℕ)) → 0 < length ls → number_in (get_or ls 0 []) ≡ first_number ls
first_line [] h = absurd (omega arith)
first_line (l ∷ ls) h = refl

-- of the lines cut from a register: none, or the number that its bytes begin with
pub no_first : (s : List ℕ) (used : ℕ) → used < line_length → first_number (used_lines (lent s used)) ≡ 0
unfolding cut_lines
no_first s used h = ap (λ (n : ℕ). first_number (cut_lines line_layout n s)) (div-eq_of_lt h)

pub first_read : (s : List ℕ) (used : ℕ) → line_length ≤ used → first_number (used_lines (lent s used)) ≡ number_at s 0 figure_width
first_read s used h =
    let one : 1 ≤ used / line_length = (le-div_iff_mul-le {k = line_length} (omega arith)).1 (omega arith) in
    let some : 0 < length (used_lines (lent s used)) = omega (arith, cut_count line_layout (used / line_length) s) in
    sym (first_line (used_lines (lent s used)) some) ∙ first_line_number line_layout number_inside s (used / line_length) some

-- the number behind lines that rise by one from a number
pub after_rising : (ls : List (List ℕ)) (expected number : ℕ)
    → ((k : ℕ) → k < length ls → number_in (get_or ls k []) ≡ number + k) → 0 < length ls
    → number_after expected ls ≡ number + length ls
unfolding number_after following
after_rising [] expected number rises h = absurd (omega arith)
after_rising (l ∷ []) expected number rises h = omega (arith, rises 0 (omega arith))
after_rising (l ∷ m ∷ ls) expected number rises h =
    omega (
      arith,
      after_rising (m ∷ ls) (following (number_in l)) (suc number) (λ k i. omega (arith, rises (suc k) (omega arith))) (omega arith),
    )

-- lines of good characters that rise by one from a right number check sound
pub rising_sound : (ls : List (List ℕ)) (expected number at : ℕ) → 0 < number → wrong_number expected number ≡ false
    → ((k : ℕ) → k < length ls → Good line_layout (get_or ls k []) line_length)
    → ((k : ℕ) → k < length ls → number_in (get_or ls k []) ≡ number + k) → (check_lines expected at ls).refusal ≡ 0
unfolding check_lines_by following
rising_sound [] expected number at some right good rises = refl
rising_sound (l ∷ ls) expected number at some right good rises =
    let here : number_in l ≡ number = omega (arith, rises 0 (omega arith)) in
    let next : number_in l + 1 ≡ suc number = omega arith in
    simp (
      fault_late line_layout l number_inside expected (good 0 (omega arith)) (ap (wrong_number expected) here ∙ right),
      le-ltb line_length line_length (omega arith),
      next,
    )
    (rising_sound ls (suc number) (suc number) (at + line_length) (omega arith) (next_right (suc number) (omega arith))
    (λ k i. good (suc k) (omega arith)) (λ k i. omega (arith, rises (suc k) (omega arith))))

-- the first number of sound lines is at least 1
pub first_positive : (ls : List (List ℕ)) → SoundLines ls → 0 < length ls → 0 < first_number ls
unfolding check_lines_by wrong_number
first_positive [] sound h = absurd (omega arith)
first_positive (l ∷ ls) sound h =
    elim (dec_lt 0 (number_in l)) [
      | yes some ↦ some
      | no none ↦
          let zero : number_in l ≡ 0 = omega arith in
          let good = sound_good line_layout number_inside (l ∷ ls) 0 0 0 sound (omega arith) in
          let inside = number_inside in
          let bad = fault_number line_layout l number_inside 0 (λ j i. good j (omega arith)) (eq-eqb (number_in l) 0 zero) in
          let e : ◌≡◌ {A = ℕ} 11 0 = simp (bad, lt-ltb 0 line_length (omega arith)) at sound in
          absurd (omega arith)
    ]

module _ (ls : List (List ℕ)) (sound : SoundLines ls) where
  -- where they begin with a number, a number from it on is as far behind the first as it is above it; no other is there
  module _ (first : ℕ) (begins : 0 < length ls → number_in (get_or ls 0 []) ≡ first) where
    pub number_by_place : (k : ℕ) → k < length ls → number_in (get_or ls k []) ≡ first + k
    number_by_place k h = omega (arith, sound_number line_layout number_inside ls 0 k sound h, begins (omega arith))

    pub line_there : (number : ℕ) → first ≤ number → number < first + length ls
        → (holds ls number ≡ true) × (line_of ls number ≡ get_or ls (number - first) [])
    line_there number low high =
        let found = number_found line_layout number_inside ls sound first number begins (number - first) (omega arith) (omega arith) in
        (found.1, (last_line (has_number number) ls found.1).1 ∙ ap (λ (n : ℕ). get_or ls n []) found.2)

    pub none_below : (number : ℕ) → number < first → holds ls number ≡ false
    none_below number low = number_before line_layout number_inside ls sound first number begins low

    pub none_above : (number : ℕ) → first + length ls ≤ number → holds ls number ≡ false
    none_above number high = number_past line_layout number_inside ls sound first number begins (number - first) (omega arith) (omega arith)

    pub held_within : (number : ℕ) → holds ls number ≡ true → (first ≤ number) × (number < first + length ls)
    held_within number e = (
      elim (dec_lt number first) [ yes h ↦ absurd (true≢false (sym e ∙ none_below number h)) | no h ↦ omega arith ],
      elim (dec_lt number (first + length ls)) [ yes h ↦ h | no h ↦ absurd (true≢false (sym e ∙ none_above number (omega arith))) ],
    )
