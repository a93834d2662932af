-- The check by loops, for any layout: characters may be judged in parts that overlap; a line is a part of the register and is
-- read there; the lines from an offset on answer for all; and a turn stops at a wrong number or a bad character, or goes on behind
-- a line without a fault. Assumes nothing.
use Prim.Native.Nat.{ℕ, zero, suc, ◌+◌, ◌-◌, ◌*◌, ◌/◌, ◌%◌, ◌^◌, ◌≤◌, ◌<◌}
use mathlib.Core.Bool.{Bool, true, false, cond, not, ◌&&◌, ◌||◌}
use mathlib.Core.List.{List}
use mathlib.Core.Path.{◌≡◌, refl, sym, ◌∙◌, ap}
use native.Mathlib.Decide.{dec_lt}
use native.Mathlib.Nat.{add_assoc, add-zero, suc-mul, zero-mul, div-add-mod', pow-suc, pow-le-pow_right, lt_of_lt_of_le}
use native.Mathlib.Numerals.{add-one}
use native.Mathlib.Omega.{arith}
use lib.Dec.{ltb, eqb}
use lib.ListN.{length, get_or, take, drop, length-take, length-drop}
use lib.Seq.{get_or-take, get_or-drop, drop-drop}
use borrow.Author.Count.{below_more}
use borrow.Author.Tests.{lt-ltb, le-ltb, eq-eqb, ne_eqb, not-true}
use Rattle.calendar.proofs.TestsLaws.{and_left, and_right, any_spans}
use Rattle.split.specs.Frame.{hex_value, is_no_digit, bad_character, digit_at, number_at}
use Rattle.split.proofs.FrameLaws.{digit_known}
use Rattle.split.proofs.HexLaws.{number_part}
use Rattle.register.specs.Answers.{Checked}
use Rattle.register.specs.Line.{figure_width, number_place, number_in}
use Rattle.register.specs.Layout.{Layout, lent, length_of, cut_lines, used_lines_by}
use Rattle.register.specs.Check.{following, number_after, wrong_number, sound, unsound, bad_at, line_fault, check_lines_by}
use Rattle.register.specs.Scan.{ScannedAs, DigitsAt}
use Rattle.register.proofs.LayoutLaws.{line_at}
use Rattle.register.proofs.CheckLaws.{Good, fault_number, fault_character, fault_late}

-- a character that may not stand at a place of a line
abbrev pub bad_character_at : Layout → ℕ → ℕ → Bool
bad_character_at y place x = cond (ltb place y.text) (is_no_digit x) (not (eqb x 10))

-- characters judged in two parts that may overlap
pub spans_judged : (l : List ℕ) (i j k : ℕ) (first last : Bool) → j ≤ i → i ≤ j + k → j ≤ length l → first ≡ bad_character (take i l)
    → last ≡ bad_character (take k (drop j l)) → (first || last) ≡ bad_character (take (j + k) l)
unfolding bad_character
spans_judged l i j k first last over inside long a b = rw (a, b) (sym (any_spans is_no_digit l i j k over inside long))

-- the number's turn at a place: past it the number is right
pub right_next : (place : ℕ) (wrong : Bool) → (eqb place figure_width && wrong) ≡ false → (figure_width < place → wrong ≡ false)
    → figure_width ≤ place → wrong ≡ false
right_next place wrong passed right h =
    elim (dec_lt figure_width place) [
      | yes past ↦ right past
      | no here ↦ simp (eq-eqb place figure_width (omega arith)) at passed
    ]

-- a number behind a line is not 0, which stands for any
pub following_some : (number : ℕ) → eqb (following number) 0 ≡ false
unfolding following
following_some number = ne_eqb _ 0 (omega arith)

-- of a number's digits i are read: they make the value where they are digits, and it has room for the others
pub record FigureRead (s : List ℕ) (at value i : ℕ) : Type 0 where
  pub within : i ≤ figure_width
  pub low : value < 16 ^ i
  pub number : DigitsAt s at i → value ≡ number_at s at i

pub read_none : {s : List ℕ} {at : ℕ} → FigureRead s at 0 0
unfolding number_at
read_none = record { within = omega arith; low = omega arith; number = λ digits. refl }

pub read_room : {s : List ℕ} {at value i : ℕ} → FigureRead s at value i → i < figure_width → value < 268435456
read_room {i = i} read h = lt_of_lt_of_le read.low (pow-le-pow_right {n = 16} (omega arith) {j = 7} (omega arith))

pub read_more : {s : List ℕ} {at value i d : ℕ} → FigureRead s at value i → i < figure_width
    → (d < 16) × (is_no_digit (get_or s (at + i) 0) ≡ false → d ≡ hex_value (get_or s (at + i) 0) % 16)
    → FigureRead s at (value * 16 + d) (i + 1)
unfolding number_at digit_at
read_more {s} {at} {value} {i} {d} read h digit = record {
  within = omega arith;
  low = rw (add-one, pow-suc) (omega (arith, read.low));
  number = λ digits.
      rw (add-one, read.number (λ j g. digits j (omega arith)), digit.1 (digits i (omega arith)));
}

pub read_all : {s : List ℕ} {at value i : ℕ} → FigureRead s at value i → figure_width ≤ i
    → DigitsAt s at figure_width → value ≡ number_at s at figure_width
read_all {i = i} read h = let all : i ≡ figure_width = omega arith in rw all at read.number

module _ (y : Layout) (wide : figure_width ≤ y.text) (s : List ℕ) where
  -- the number and the characters of the line at an offset, read in the register
  pub line_number : (at : ℕ) → number_in (line_at y s at) ≡ number_at s at figure_width
  unfolding number_in
  line_number at =
      number_part s (length_of y) at number_place figure_width (omega arith)
      ∙ ap (λ (n : ℕ). number_at s n figure_width) (add-zero at)

  line_character : (at place : ℕ) → place < length_of y → bad_at y (line_at y s at) place ≡ bad_character_at y place (get_or s (at + place) 0)
  unfolding bad_at
  line_character at place h = simp (get_or-take (length_of y) (drop at s) place 0 h, get_or-drop)

  -- one more good character
  pub good_more : (at place : ℕ) → place < length_of y → Good y (line_at y s at) place
      → bad_character_at y place (get_or s (at + place) 0) ≡ false → Good y (line_at y s at) (place + 1)
  good_more at place h good b = below_more _ place good (line_character at place h ∙ b)

  -- all are good by the test of a whole line
  pub good_whole : (at : ℕ) (whole : Bool) → at + length_of y ≤ length s
      → whole ≡ (not (bad_character (take y.text (take (at + length_of y - at) (drop at s)))) && eqb (get_or (take (at + length_of y - at) (drop at s)) y.text 0) 10)
      → whole ≡ true → Good y (line_at y s at) (length_of y)
  good_whole at whole inside laid holds place h =
      let part = take (at + length_of y - at) (drop at s) in
      let both = sym laid ∙ holds in
      let digits = not-true (bad_character (take y.text part)) (and_left (not (bad_character (take y.text part))) _ both) in
      let ended = and_right (not (bad_character (take y.text part))) (eqb (get_or part y.text 0) 10) both in
      let read : get_or part place 0 ≡ get_or s (at + place) 0 =
      get_or-take (at + length_of y - at) (drop at s) place 0 (omega arith) ∙ get_or-drop at s place 0
      in
      line_character at place h
      ∙ elim (dec_lt place y.text) [
        | yes digit ↦
            simp (lt-ltb place y.text digit)
            (rw (get_or-take y.text part place 0 digit, read) at
            (digit_known (take y.text part) place digits (simp (length-take, length-drop) (omega arith))))
        | no newline ↦
            let e : y.text ≡ place = omega arith in
            let here : eqb (get_or s (at + place) 0) 10 ≡ true =
            ap (λ (c : ℕ). eqb c 10) (sym read) ∙ ap (λ (n : ℕ). eqb (get_or part n 0) 10) (sym e) ∙ ended
            in
            simp (le-ltb place y.text (omega arith), here)
      ]

  -- good characters before the newline's place are digits
  pub good_digits : (at o n : ℕ) → o + n ≤ y.text → Good y (line_at y s at) (o + n) → DigitsAt s (at + o) n
  good_digits at o n text good j h =
      rw (← add_assoc at o j) at
      (simp (lt-ltb (o + j) y.text (omega arith)) at (sym (line_character at (o + j) (omega arith)) ∙ good (o + j) (omega arith)))

  -- the lines from an offset on answer for all: what the check finds in them, and the number after them
  pub record Left (used at expected : ℕ) : Type 0 where
    pub count : ℕ
    pub filled : at + count * length_of y ≡ used
    pub checked : check_lines_by y 0 0 (used_lines_by y (lent s used)) ≡ check_lines_by y expected at (cut_lines y count (drop at s))
    pub numbered : number_after 0 (used_lines_by y (lent s used)) ≡ number_after expected (cut_lines y count (drop at s))

  pub left_start : (used : ℕ) → used % length_of y ≡ 0 → Left used 0 0
  left_start used exact =
      record { count = used / length_of y; filled = omega (arith, div-add-mod' used (length_of y)); checked = refl; numbered = refl }

  module _ {used at expected : ℕ} (left : Left used at expected) where
    -- none is left
    none_left : used ≤ at → left.count ≡ 0
    none_left h = go left.count left.filled
      where
        go : (n : ℕ) → at + n * length_of y ≡ used → n ≡ 0
        go zero e = refl
        go (suc n) e = absurd (omega (arith, suc-mul n (length_of y)))

    pub left_done : used ≤ at → (check_lines_by y 0 0 (used_lines_by y (lent s used)) ≡ sound)
        × (number_after 0 (used_lines_by y (lent s used)) ≡ expected)
    unfolding check_lines_by number_after cut_lines
    left_done h =
        let e = none_left h in (
          left.checked ∙ ap (λ (n : ℕ). check_lines_by y expected at (cut_lines y n (drop at s))) e,
          left.numbered ∙ ap (λ (n : ℕ). number_after expected (cut_lines y n (drop at s))) e,
        )

    module _ (more : at < used) where
      -- one is, and the rest behind it
      one_left : (k : ℕ) × (left.count ≡ suc k)
      one_left = go left.count left.filled
        where
          go : (n : ℕ) → at + n * length_of y ≡ used → (k : ℕ) × (n ≡ suc k)
          go zero e = absurd (omega (arith, zero-mul (length_of y)))
          go (suc n) e = (n, refl)

      pub left_inside : at + length_of y ≤ used
      left_inside =
          let k = one_left in
          omega (arith, left.filled, ap (λ (n : ℕ). n * length_of y) k.1, suc-mul k.0 (length_of y))

      stop : (fault : ℕ) → line_fault y expected (line_at y s at) ≡ fault → fault < length_of y
          → check_lines_by y 0 0 (used_lines_by y (lent s used)) ≡ unsound (at + fault)
      unfolding check_lines_by cut_lines
      stop fault e h =
          left.checked ∙ ap (λ (n : ℕ). check_lines_by y expected at (cut_lines y n (drop at s))) one_left.1
          ∙ simp (e, lt-ltb fault (length_of y) h)

      module _ (number : ℕ) (read : DigitsAt s at figure_width → number ≡ number_at s at figure_width) where
        -- the number read is the line's where no character before a place past it is bad
        known_number : (place : ℕ) → figure_width ≤ place → Good y (line_at y s at) place → number_in (line_at y s at) ≡ number
        known_number place h good =
            line_number at
            ∙ sym (read (rw (add-zero at) at (good_digits at 0 figure_width wide (λ j i. good j (omega arith)))))

        pub stop_number : Good y (line_at y s at) figure_width → wrong_number expected number ≡ true
            → check_lines_by y 0 0 (used_lines_by y (lent s used)) ≡ unsound at
        stop_number good wrong =
            stop 0
            (fault_number y (line_at y s at) wide expected good
            (ap (wrong_number expected) (known_number figure_width (omega arith) good) ∙ wrong))
            (omega arith)
            ∙ ap unsound (add-zero at)

        pub stop_character : (place : ℕ) → place < length_of y → Good y (line_at y s at) place
            → bad_character_at y place (get_or s (at + place) 0) ≡ true → (figure_width ≤ place → wrong_number expected number ≡ false)
            → check_lines_by y 0 0 (used_lines_by y (lent s used)) ≡ unsound (at + place)
        stop_character place h good b right =
            stop place
            (fault_character y (line_at y s at) wide expected place h good (line_character at place h ∙ b)
            (λ g. ap (wrong_number expected) (known_number place g good) ∙ right g))
            h

        pub left_on : Good y (line_at y s at) (length_of y) → wrong_number expected number ≡ false → y.late (line_at y s at) ≡ false
            → Left used (at + length_of y) (following number)
        unfolding check_lines_by number_after cut_lines
        left_on good right early =
            let k = one_left in
            let here = known_number (length_of y) (omega arith) good in
            let faultless : line_fault y expected (line_at y s at) ≡ length_of y =
            fault_late y (line_at y s at) wide expected good (ap (wrong_number expected) here ∙ right) ∙ simp early
            in
            record {
              count = k.0;
              filled = omega (arith, left.filled, ap (λ (n : ℕ). n * length_of y) k.1, suc-mul k.0 (length_of y));
              checked =
                  left.checked ∙ ap (λ (n : ℕ). check_lines_by y expected at (cut_lines y n (drop at s))) k.1
                  ∙ simp (faultless, le-ltb (length_of y) (length_of y) (omega arith), here, drop-drop);
              numbered =
                  left.numbered ∙ ap (λ (n : ℕ). number_after expected (cut_lines y n (drop at s))) k.1
                  ∙ ap (λ (n : ℕ). number_after (following n) (cut_lines y k.0 (drop (length_of y) (drop at s)))) here
                  ∙ ap (λ (l : List ℕ). number_after (following number) (cut_lines y k.0 l)) (drop-drop (length_of y) at s);
            }

-- what a stop tells
pub scanned_unsound : {found : Checked} {ls : List (List ℕ)} {at : ℕ} → found ≡ unsound at
    → ScannedAs found ls (record { refusal = 11; offset = at; next = 0 })
scanned_unsound stopped = record { checked = sym stopped; numbered = λ none. absurd (omega arith) }
