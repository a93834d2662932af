-- The lower first and the higher last of two lists of lines: each is one of theirs, and none is farther out. And the lines of a sound
-- register: the one that has a number is whole, of good characters and has that number; each line is found by its number, which is
-- at least 1 and lies between the lower first and the higher last of this register and any other; and its first line and its last.
-- Assumes nothing.
use Prim.Native.Nat.{ℕ, zero, suc, ◌+◌, ◌-◌, ◌≤◌, ◌<◌, min}
use mathlib.Core.Bool.{true}
use mathlib.Core.List.{List, [], ◌∷◌}
use mathlib.Core.Path.{◌≡◌, refl, sym, ◌∙◌, ap}
use mathlib.Core.Logic.{◌⊎◌, inl, inr, ⊎_elim}
use native.Mathlib.Decide.{dec_lt}
use native.Mathlib.Omega.{arith}
use lib.Dec.{eqb}
use lib.ListN.{length, get_or}
use borrow.Author.Tests.{ne_eqb}
use Rattle.calendar.proofs.TestsLaws.{by_test, by_zero}
use Rattle.register.specs.Line.{number_in}
use Rattle.register.specs.Layout.{Register, Layout, length_of, line_layout, line_length, used_lines}
use Rattle.register.specs.Check.{number_after, next_number, check_of}
use Rattle.register.specs.Scan.{SoundLines}
use Rattle.register.proofs.LayoutLaws.{Whole}
use Rattle.register.proofs.CheckLaws.{Good, number_inside, sound_good}
use Rattle.joining.specs.Join.{holds, line_of, first_number, lower_first, higher_next}
use Rattle.joining.specs.Claims.{LineIn, LineInOne}
use Rattle.joining.proofs.Numbers.{first_line, after_rising, first_positive, number_by_place, line_there, held_within}
use Rattle.joining.proofs.Swapped.{lower_swapped, higher_swapped}
use Rattle.joining.proofs.Texts.{sound_register}

-- the lines of a list, one by one
pub whole_each : (y : Layout) (ls : List (List ℕ)) → Whole y ls → (k : ℕ) → k < length ls → length (get_or ls k []) ≡ length_of y
whole_each y [] h k i = absurd (omega arith)
whole_each y (l ∷ ls) h zero i = h.0
whole_each y (l ∷ ls) h (suc k) i = whole_each y ls h.1 k (omega arith)

pub each_whole : (y : Layout) (ls : List (List ℕ)) → ((k : ℕ) → k < length ls → length (get_or ls k []) ≡ length_of y) → Whole y ls
each_whole y [] each = tt
each_whole y (l ∷ ls) each = (each 0 (omega arith), each_whole y ls (λ k i. each (suc k) (omega arith)))

-- the lower first is not above a first, nor the higher last below a last
pub lower_most : (ls ms : List (List ℕ)) → 0 < first_number ls → lower_first ls ms ≤ first_number ls
unfolding lower_first
lower_most ls ms some =
    simp (ne_eqb (first_number ls) 0 (omega arith))
    (by_test (λ x. x ≤ first_number ls) (eqb (first_number ms) 0) (first_number ls) (min (first_number ls) (first_number ms)) (λ e. omega arith)
    (λ e. omega arith))

pub higher_least : (ls ms : List (List ℕ)) → next_number ls ≤ higher_next ls ms
unfolding higher_next
higher_least ls ms = omega arith

-- each of them is one of the two registers'
pub lower_one : (ls ms : List (List ℕ)) → 0 < higher_next ls ms
    → ((0 < length ls) × (lower_first ls ms ≡ first_number ls)) ⊎ ((0 < length ms) × (lower_first ls ms ≡ first_number ms))
unfolding lower_first higher_next number_after
lower_one [] [] h = absurd (omega arith)
lower_one [] (m ∷ ms) h = inr (omega arith, refl)
lower_one (l ∷ ls) [] h = inl (omega arith, by_zero (λ x. x ≡ number_in l) (number_in l) 0 (number_in l) (λ e. sym e) (λ e. refl))
lower_one (l ∷ ls) (m ∷ ms) h =
    by_zero P (number_in l) (number_in m) _ (λ e. inr (omega arith, refl))
    (λ e.
    by_zero P (number_in m) (number_in l) _ (λ f. inl (omega arith, refl))
    (λ f.
    elim (dec_lt (number_in m) (number_in l)) [
      | yes i ↦ inr (omega arith, omega arith)
      | no i ↦ inl (omega arith, omega arith)
    ]))
  where
    P : ℕ → Type 0
    P x = ((0 < length (l ∷ ls)) × (x ≡ number_in l)) ⊎ ((0 < length (m ∷ ms)) × (x ≡ number_in m))

next_none : (ls : List (List ℕ)) → 0 < next_number ls → 0 < length ls
unfolding number_after
next_none [] h = absurd (omega arith)
next_none (l ∷ ls) h = omega arith

pub higher_one : (ls ms : List (List ℕ)) → 0 < higher_next ls ms
    → ((0 < length ls) × (higher_next ls ms ≡ next_number ls)) ⊎ ((0 < length ms) × (higher_next ls ms ≡ next_number ms))
unfolding higher_next
higher_one ls ms h =
    elim (dec_lt (next_number ls) (next_number ms)) [
      | yes i ↦ inr (next_none ms (omega arith), omega arith)
      | no i ↦ inl (next_none ls (omega arith), omega arith)
    ]

-- a line of a sound register: its number, good characters and a whole length
pub record OwnLine (r : Register) (number : ℕ) (l : List ℕ) : Type 0 where
  pub among : LineIn r l
  pub numbered : number_in l ≡ number
  pub good : Good line_layout l line_length
  pub whole : length l ≡ line_length

module _ (r : Register) (sound : (check_of r).refusal ≡ 0) where
  lines_sound : SoundLines (used_lines r)
  lines_sound = (sound_register r.bytes r.used sound).lines

  -- the line that has a number
  pub own_line : (number : ℕ) → holds (used_lines r) number ≡ true → OwnLine r number (line_of (used_lines r) number)
  own_line number e =
      let ls = used_lines r in
      let begins = first_line ls in
      let w = held_within ls lines_sound (first_number ls) begins number e in
      let t = line_there ls lines_sound (first_number ls) begins number w.0 w.1 in
      let place = number - first_number ls in
      let i : place < length ls = omega arith in
      rw t.1
      (record {
        among = record { place = place; inside = i; there = refl };
        numbered = omega (arith, number_by_place ls lines_sound (first_number ls) begins place i);
        good = sound_good line_layout number_inside ls 0 0 place lines_sound i;
        whole = whole_each line_layout ls (sound_register r.bytes r.used sound).part.whole place i;
      })

  -- the number of a line: the line has it, and it lies between the bounds of this register's lines and any others'
  module _ (l : List ℕ) (among : LineIn r l) where
    pub own_number : number_in l ≡ first_number (used_lines r) + among.place
    own_number =
        ap number_in (sym among.there)
        ∙ number_by_place (used_lines r) lines_sound (first_number (used_lines r)) (first_line (used_lines r)) among.place among.inside

    pub own_positive : 0 < number_in l
    own_positive =
        let i = among.inside in
        omega (arith, own_number, first_positive (used_lines r) lines_sound (omega arith))

    pub own_found : (holds (used_lines r) (number_in l) ≡ true) × (line_of (used_lines r) (number_in l) ≡ l)
    own_found =
        let ls = used_lines r in
        let i = among.inside in
        let e = own_number in
        let t = line_there ls lines_sound (first_number ls) (first_line ls) (number_in l) (omega arith) (omega arith) in
        let back : number_in l - first_number ls ≡ among.place = omega arith in
        (t.0, t.1 ∙ ap (λ (n : ℕ). get_or ls n []) back ∙ among.there)

    own_bounds : (ms : List (List ℕ)) → (lower_first (used_lines r) ms ≤ number_in l) × (number_in l < higher_next (used_lines r) ms)
    own_bounds ms =
        let ls = used_lines r in
        let i = among.inside in
        let e = own_number in
        let some = first_positive ls lines_sound (omega arith) in
        let next = after_rising ls 0 (first_number ls) (number_by_place ls lines_sound (first_number ls) (first_line ls)) (omega arith) in
        (omega (arith, lower_most ls ms some), omega (arith, higher_least ls ms))

  -- its first line and its last
  module _ (some : 0 < length (used_lines r)) where
    pub own_first : (l : List ℕ) × LineIn r l × (number_in l ≡ first_number (used_lines r))
    own_first = (get_or (used_lines r) 0 [], record { place = 0; inside = some; there = refl }, first_line (used_lines r) some)

    pub own_last : (l : List ℕ) × LineIn r l × (number_in l + 1 ≡ next_number (used_lines r))
    own_last =
        let ls = used_lines r in
        let last = length ls - 1 in
        let i : last < length ls = omega arith in
        let numbers = number_by_place ls lines_sound (first_number ls) (first_line ls) in
        (get_or ls last [], record { place = last; inside = i; there = refl }, omega (arith, numbers last i, after_rising ls 0 (first_number ls) numbers some))

-- the number of a line of either of two
pub one_bounds : (first second : Register) → (check_of first).refusal ≡ 0 → (check_of second).refusal ≡ 0 → (l : List ℕ)
    → LineInOne first second l
    → (lower_first (used_lines first) (used_lines second) ≤ number_in l) × (number_in l < higher_next (used_lines first) (used_lines second))
one_bounds first second good good₂ l among =
    ⊎_elim (λ a. own_bounds first good l a (used_lines second))
    (λ a.
    rw (lower_swapped (used_lines first) (used_lines second), higher_swapped (used_lines first) (used_lines second))
    (own_bounds second good₂ l a (used_lines first))) among
