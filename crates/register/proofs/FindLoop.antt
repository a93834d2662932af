-- Finding in the code's numbers, for any layout: from the last line down, the lines before a place and the line there make one
-- line more, and the last that passes a test is that one, or the last before it; the chunks from the back are those lines; the
-- lines compared till then; figures of lines; and what a find answers by a place. Assumes nothing.
use Prim.Native.Nat.{ℕ, suc, ◌+◌, ◌-◌, ◌*◌, ◌/◌, ◌%◌, ◌≤◌, ◌<◌}
use mathlib.Core.Bool.{Bool, true, false, or-true, or-false}
use mathlib.Core.List.{List, [], ◌∷◌, ◌++◌, append_assoc, append-nil}
use Rattle.std.specs.Prelude.{Option, Some, None, IfSome}
use mathlib.Core.Path.{◌≡◌, refl, sym, ◌∙◌, ap}
use native.Mathlib.Nat.{zero-add, zero-mul, suc-mul, div-add-mod', mul-le-mul_right}
use native.Mathlib.Decide.{dec_lt}
use native.Mathlib.Omega.{arith}
use lib.Dec.{eqb}
use borrow.Author.Tests.{lt-ltb}
use lib.ListN.{length, get_or, take, length-append}
use lib.Seq.{take_at, drop_at, length-take-le}
use Rattle.calendar.specs.Tests.{any}
use Rattle.calendar.proofs.TestsLaws.{any_snoc}
use Rattle.split.specs.Frame.{is_no_digit, number_at, hex_text}
use Rattle.split.proofs.FrameLaws.{digit_known}
use Rattle.split.proofs.HexLaws.{hex_length, hex_good, hex_back, number_same, number_other}
use Rattle.register.specs.Line.{figure_width, member_place, number_in}
use Rattle.register.specs.Answers.{Checked, Located}
use Rattle.register.specs.Layout.{Register, Layout, lent, length_of, cut_lines, used_lines_by}
use Rattle.register.specs.Check.{bad_at, check_lines_by, check_by}
use Rattle.register.specs.Find.{last_place, has_member, locate_by, newer_lines, with_found, lines_compared, locate_member_by}
use Rattle.register.specs.Scan.{DigitsAt, FoundAt, placed_by}
use Rattle.register.proofs.LayoutLaws.{line_at, cut_count, cut_at, cut_snoc, used_alone}
use Rattle.register.proofs.CheckLaws.{sound_good, check_sound}
use Rattle.register.proofs.CheckLoop.{line_number}
use Rattle.register.proofs.FindLaws.{last_newer, place_snoc, locate_unsound, locate_absent, locate_found, compared_unsound, compared_sound}

-- what n lines answer, the first i of them answer
pub record Same (y : Layout) (f : List ℕ → Bool) (s : List ℕ) (n i : ℕ) : Type 0 where
  pub within : i ≤ n
  pub place : last_place f (cut_lines y n s) ≡ last_place f (cut_lines y i s)
  pub some : any f (cut_lines y n s) ≡ any f (cut_lines y i s)

module _ (y : Layout) (f : List ℕ → Bool) (s : List ℕ) (n i : ℕ) (same : Same y f s n i) where
  module _ (h : 0 < i) where
    -- the lines before i are those before the last of them, and it
    parts : cut_lines y i s ≡ cut_lines y (i - 1) s ++ (line_at y s ((i - 1) * length_of y) ∷ [])
    parts =
        let e : i ≡ suc (i - 1) = omega arith in
        ap (λ (k : ℕ). cut_lines y k s) e ∙ cut_snoc y (i - 1) s

    pub same_hit : f (line_at y s ((i - 1) * length_of y)) ≡ true → FoundAt f (cut_lines y n s) (Some (i - 1))
    same_hit t = (
      omega (arith, same.within, cut_count y n s),
      same.some ∙ simp (parts, any_snoc f (cut_lines y (i - 1) s) (line_at y s ((i - 1) * length_of y)), t, or-true),
      same.place ∙ simp (parts, place_snoc, t, cut_count),
    )

    pub same_miss : f (line_at y s ((i - 1) * length_of y)) ≡ false → Same y f s n (i - 1)
    same_miss t = record {
      within = omega (arith, same.within);
      place = same.place ∙ simp (parts, place_snoc, t);
      some = same.some ∙ simp (parts, any_snoc f (cut_lines y (i - 1) s) (line_at y s ((i - 1) * length_of y)), t, or-false);
    }

  pub same_none : i ≤ 0 → any f (cut_lines y n s) ≡ false
  unfolding cut_lines
  same_none h = let e : i ≡ 0 = omega arith in same.some ∙ simp e

-- the lines that a search compared, by where it ended: the newer ones and the line found, or all
module _ (f : List ℕ → Bool) (ls : List (List ℕ)) where
  pub counted_hit : (place newer : ℕ) → FoundAt f ls (Some place) → place + suc newer ≡ length ls → with_found newer ≡ lines_compared f ls
  unfolding lines_compared
  counted_hit place newer found e =
      let same : newer_lines f ls ≡ newer = omega (arith, found.2, last_newer f ls found.1) in
      simp (found.1, same)

  pub counted_none : any f ls ≡ false → length ls ≡ lines_compared f ls
  unfolding lines_compared
  counted_none none = simp none

-- a member that is written: its digits, and what comparing them with a line's tells of the line
module _ (digits : List ℕ) (member : ℕ) (written : digits ≡ hex_text figure_width member) where
  pub member_digits : DigitsAt digits 0 figure_width
  member_digits j h =
      rw (zero-add j, written)
      (digit_known (hex_text figure_width member) j (hex_good figure_width member) (omega (arith, hex_length figure_width member)))

  member_back : member < 4294967296 → number_at digits 0 figure_width ≡ member
  member_back low = rw (written, ← append-nil (hex_text figure_width member)) (hex_back [] [] figure_width member low)

  pub member_told : (l : List ℕ) (told : Bool) → member < 4294967296 → told ≡ has_member (number_at digits 0 figure_width) l
      → has_member member l ≡ told
  member_told l told low e = ap (λ (x : ℕ). has_member x l) (sym (member_back low)) ∙ sym e

-- a character that is good before the newline's place is a digit
digit_good : (y : Layout) (l : List ℕ) (place : ℕ) → place < y.text → bad_at y l place ≡ false → is_no_digit (get_or l place 0) ≡ false
unfolding bad_at
digit_good y l place h good = simp (lt-ltb place y.text h) at good

-- the member's characters in a line among sound ones are digits
pub line_digits : (y : Layout) (wide : figure_width ≤ y.text) (s : List ℕ) (n k : ℕ) → member_place + figure_width ≤ y.text
    → (check_lines_by y 0 0 (cut_lines y n s)).refusal ≡ 0 → k < n → DigitsAt (line_at y s (k * length_of y)) member_place figure_width
line_digits y wide s n k inside sound h j i =
    digit_good y (line_at y s (k * length_of y)) (member_place + j) (omega arith)
    (rw (cut_at y n s k h) at (sound_good y wide (cut_lines y n s) 0 0 k sound (omega (arith, cut_count y n s))) (member_place + j) (omega arith))

-- what n lines answer, all n answer
same_all : (y : Layout) (f : List ℕ → Bool) (s : List ℕ) (n : ℕ) → Same y f s n n
same_all y f s n = record { within = omega arith; place = refl; some = refl }

-- what the chunks from the back leave: a part at the front, of as many lines as are left, and what n lines answer its lines answer
pub record Back (y : Layout) (f : List ℕ → Bool) (s : List ℕ) (n newer : ℕ) (rest : List ℕ) : Type 0 where
  pub after : List ℕ
  pub whole : s ≡ rest ++ after
  pub size : length rest ≡ (n - newer) * length_of y
  pub same : Same y f s n (n - newer)

-- all are left where no part of a line stands before them
pub back_first : (y : Layout) (f : List ℕ → Bool) (s part rest : List ℕ) → s ≡ part ++ rest → length part ≡ length s % length_of y
    → length s % length_of y ≡ 0 → Back y f s (length s / length_of y) 0 rest
back_first y f s [] rest e few none =
    let all : length s / length_of y - 0 ≡ length s / length_of y = omega arith in
    record {
      after = [];
      whole = e ∙ sym (append-nil rest);
      size =
          ap length (sym e) ∙ sym (omega (arith, div-add-mod' (length s) (length_of y), none))
          ∙ ap (λ (k : ℕ). k * length_of y) (sym all);
      same = rw all (same_all y f s (length s / length_of y));
    }
back_first y f s (c ∷ part) rest e few none = absurd (omega arith)

module _ (y : Layout) (f : List ℕ → Bool) (s : List ℕ) (n newer : ℕ) (rest : List ℕ) (back : Back y f s n newer rest) where
  -- the last chunk is the last line left
  module _ (more line : List ℕ) (e : rest ≡ more ++ line) (size : length line ≡ length_of y) where
    pub back_left : newer < n
    back_left = elim (dec_lt newer n) [
      | yes h ↦ h
      | no h ↦
          let none : n - newer ≡ 0 = omega arith in
          absurd (omega (arith, back.size, ap (λ (k : ℕ). k * length_of y) none, zero-mul (length_of y), ap length e, length-append more line))
    ]

    -- it stands behind the lines before it
    back_before : length more ≡ (n - 1 - newer) * length_of y
    back_before =
        let next : n - newer ≡ suc (n - 1 - newer) = omega (arith, back_left) in
        omega (arith, back.size, ap (λ (k : ℕ). k * length_of y) next, suc-mul (n - 1 - newer) (length_of y), ap length e, length-append more line)

    back_whole : s ≡ more ++ (line ++ back.after)
    back_whole = back.whole ∙ ap (λ (l : List ℕ). l ++ back.after) e ∙ append_assoc more line back.after

    back_line : line_at y s ((n - 1 - newer) * length_of y) ≡ line
    back_line =
        ap (λ (l : List ℕ). line_at y l ((n - 1 - newer) * length_of y)) back_whole
        ∙ ap (take (length_of y)) (drop_at more (line ++ back.after) ((n - 1 - newer) * length_of y) back_before)
        ∙ take_at line back.after (length_of y) size

    -- its member's characters are digits where the lines are sound
    pub back_digits : figure_width ≤ y.text → member_place + figure_width ≤ y.text → (check_lines_by y 0 0 (cut_lines y n s)).refusal ≡ 0
        → DigitsAt line member_place figure_width
    back_digits wide inside sound = rw back_line at (line_digits y wide s n (n - 1 - newer) inside sound (omega (arith, back_left)))

    -- what it is told to answer, all lines answer, or the lines before it
    last : n - newer - 1 ≡ n - 1 - newer
    last = omega arith

    pub back_hit : f line ≡ true → FoundAt f (cut_lines y n s) (Some (n - 1 - newer))
    back_hit t =
        rw last at (same_hit y f s n (n - newer) back.same (omega (arith, back_left)) (rw last (ap f back_line ∙ t)))

    pub back_miss : f line ≡ false → Back y f s n (newer + 1) more
    back_miss t =
        let less : n - 1 - newer ≡ n - (newer + 1) = omega arith in
        let before = same_miss y f s n (n - newer) back.same (omega (arith, back_left)) (rw last (ap f back_line ∙ t)) in
        record {
          after = line ++ back.after;
          whole = back_whole;
          size = back_before ∙ ap (λ (k : ℕ). k * length_of y) less;
          same = rw less at (rw last at before);
        }

  -- none is left where they are shorter than a line
  pub back_none : length rest < length_of y → any f (cut_lines y n s) ≡ false
  back_none few = elim (dec_lt newer n) [
    | yes h ↦
        let next : n - newer ≡ suc (n - 1 - newer) = omega arith in
        absurd (omega (arith, back.size, ap (λ (k : ℕ). k * length_of y) next, suc-mul (n - 1 - newer) (length_of y)))
    | no h ↦ same_none y f s n (n - newer) back.same (omega arith)
  ]

-- a figure of a line compared with digits from the last on: what all tell, the first i tell
module _ (s : List ℕ) (at : ℕ) (t : List ℕ) where
  abbrev pub same_figure : ℕ → Bool
  same_figure i = eqb (number_at s at i) (number_at t 0 i)

  pub figure_same : (whole : Bool) (i : ℕ) → 0 < i → whole ≡ same_figure i → get_or s (at + (i - 1)) 0 ≡ get_or t (i - 1) 0
      → whole ≡ same_figure (i - 1)
  figure_same whole i h rest e =
      let next : i ≡ suc (i - 1) = omega arith in
      rest ∙ ap same_figure next ∙ number_same s t at 0 (i - 1) (e ∙ ap (λ (k : ℕ). get_or t k 0) (sym (zero-add (i - 1))))

  pub figure_other : (whole : Bool) (i : ℕ) → 0 < i → whole ≡ same_figure i → is_no_digit (get_or s (at + (i - 1)) 0) ≡ false
      → is_no_digit (get_or t (0 + (i - 1)) 0) ≡ false → (get_or s (at + (i - 1)) 0 ≡ get_or t (i - 1) 0 → ⊥) → whole ≡ false
  figure_other whole i h rest known known₂ other =
      let next : i ≡ suc (i - 1) = omega arith in
      rest ∙ ap same_figure next ∙ number_other s t at 0 (i - 1) known known₂ (rw (zero-add (i - 1)) other)

  pub figure_all : (whole : Bool) (i : ℕ) → i ≤ 0 → whole ≡ same_figure i → whole ≡ true
  unfolding number_at
  figure_all whole i h rest = let e : i ≡ 0 = omega arith in rest ∙ ap same_figure e

-- the first of the lines cut begins the register
pub first_line_number : (y : Layout) (wide : figure_width ≤ y.text) (s : List ℕ) (n : ℕ) → 0 < length (cut_lines y n s)
    → number_in (get_or (cut_lines y n s) 0 []) ≡ number_at s 0 figure_width
first_line_number y wide s n h =
    ap number_in (cut_at y n s 0 (omega (arith, cut_count y n s)) ∙ ap (line_at y s) (zero-mul (length_of y)))
    ∙ line_number y wide s 0

-- the place found of a line is within the used length
pub place_fits : (y : Layout) (f : List ℕ → Bool) (r : Register) (place : Option ℕ) → FoundAt f (used_lines_by y r) place
    → r.used < 18446744073709551616 → IfSome place (λ p. p * length_of y < 18446744073709551616)
place_fits y f r None none low = tt
place_fits y f r (Some place) found low =
    let next : place ≤ r.used / length_of y = omega (arith, found.0, cut_count y (r.used / length_of y) r.bytes) in
    omega (
      arith,
      mul-le-mul_right (length_of y) next,
      div-add-mod' r.used (length_of y),
    )

-- what a find knows by what the check gave, and what it answers by the place of the last line that passes
module _ (y : Layout) (r : Register) (checked : Checked) (e : checked ≡ check_by y r) where
  same_check : (check_by y r).refusal ≡ checked.refusal
  same_check = ap (λ (k : Checked). k.refusal) (sym e)

  pub unchecked : (f : List ℕ → Bool) → (checked.refusal ≡ 0 → ⊥) → locate_by y f r ≡ record { refusal = 11; offset = 0; length = 0 }
  unchecked f h = locate_unsound y f r (λ z. h (sym same_check ∙ z))

  module _ (good : checked.refusal ≡ 0) where
    pub lines_sound : (r.used ≤ length r.bytes) × ((check_lines_by y 0 0 (used_lines_by y r)).refusal ≡ 0)
    lines_sound = let k = check_sound y r (same_check ∙ good) in (k.0, k.2)

    -- the used part by itself has those lines
    abbrev alone : List (List ℕ)
    alone = used_lines_by y (lent (take r.used r.bytes) (length (take r.used r.bytes)))

    pub same_lines : alone ≡ used_lines_by y r
    same_lines = let k = check_sound y r (same_check ∙ good) in used_alone y r.bytes r.used k.0 k.1

    pub alone_whole : length (take r.used r.bytes) % length_of y ≡ 0
    alone_whole =
        let k = check_sound y r (same_check ∙ good) in
        ap (λ (n : ℕ). n % length_of y) (length-take-le r.used r.bytes k.0) ∙ k.1

    pub alone_sound : (check_lines_by y 0 0 alone).refusal ≡ 0
    alone_sound = rw same_lines lines_sound.1

    pub found_alone : (f : List ℕ → Bool) (place : Option ℕ) → FoundAt f alone place → FoundAt f (used_lines_by y r) place
    found_alone f place found = rw same_lines at found

    pub answered : (f : List ℕ → Bool) (place : Option ℕ) → FoundAt f (used_lines_by y r) place → locate_by y f r ≡ placed_by y place
    answered f None none = locate_absent y f r (same_check ∙ good) none
    answered f (Some place) found =
        locate_found y f r (same_check ∙ good) found.1
        ∙ ap (λ (k : ℕ). record { refusal = 0; offset = k * length_of y; length = length_of y }) found.2

  -- the same of a member, with the lines compared
  module _ (member : ℕ) (located : Located) where
    pub member_unchecked : (checked.refusal ≡ 0 → ⊥) → located ≡ record { refusal = 11; offset = 0; length = 0 }
        → record { located = located; compared = 0 } ≡ locate_member_by y member r
    unfolding locate_member_by
    member_unchecked h at =
        simp (compared_unsound y (has_member member) r (λ z. h (sym same_check ∙ z)), at, unchecked (has_member member) h)

    pub member_answered : checked.refusal ≡ 0 → (place : Option ℕ) (compared : ℕ) → FoundAt (has_member member) (used_lines_by y r) place
        → compared ≡ lines_compared (has_member member) (used_lines_by y r) → located ≡ placed_by y place
        → record { located = located; compared = compared } ≡ locate_member_by y member r
    unfolding locate_member_by
    member_answered good place compared last count at =
        simp (compared_sound y (has_member member) r (same_check ∙ good), count, at, answered good (has_member member) place last)
