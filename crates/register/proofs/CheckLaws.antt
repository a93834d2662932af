-- The check of a register, for any layout: the fault of a line by the first bad character, the number and the late test; one
-- more line behind lines that check sound; and lines that check sound, whose characters are good and whose numbers rise from
-- the first by one.
-- By induction on the characters and on the lines. Assumes nothing.
use Prim.Native.Nat.{ℕ, zero, suc, ◌+◌, ◌-◌, ◌*◌, ◌%◌, ◌≤◌, ◌<◌}
use mathlib.Core.Bool.{Bool, true, false, cond, true≢false}
use mathlib.Core.List.{List, [], ◌∷◌, ◌++◌}
use mathlib.Core.Logic.{◌⊎◌, inl, inr, ⊎_elim}
use mathlib.Core.Path.{◌≡◌, refl, sym, ◌∙◌, ap}
use native.Mathlib.Decide.{dec_lt}
use native.Mathlib.Nat.{mul-mod_left}
use native.Mathlib.Omega.{arith}
use lib.Dec.{ltb, eqb}
use lib.ListN.{length, get_or}
use borrow.Author.Tests.{lt-ltb, le-ltb, ltb-true, ltb-false, eqb-true, eq-eqb, ne_eqb, not-false}
use Rattle.calendar.proofs.TestsLaws.{or_left, or_right}
use Rattle.split.proofs.FrameLaws.{number_below}
use Rattle.register.specs.Answers.{Checked}
use Rattle.register.specs.Line.{figure_width, text_length, line_for, number_in}
use Rattle.register.specs.Layout.{Layout, Register, length_of, used_lines_by, used_by, line_layout, line_length}
use Rattle.register.specs.Check.{following, number_after, wrong_number, unsound, bad_at, first_bad, line_fault, check_lines_by, bad_used_by, check_by}
use Rattle.register.proofs.LineLaws.{line_digit, line_end, number_back}
use Rattle.register.proofs.LayoutLaws.{Whole, whole_length}

-- a number that is read has 32 bits
pub number_low : (l : List ℕ) → number_in l < 4294967296
unfolding number_in
number_low l = number_below l 0 figure_width

-- the number after one more line, and after any lines that follow a first
pub after_more : (expected : ℕ) (ls : List (List ℕ)) (l : List ℕ) → number_after expected (ls ++ (l ∷ [])) ≡ following (number_in l)
unfolding number_after
after_more expected [] l = refl
after_more expected (m ∷ ls) l = after_more (following (number_in m)) ls l

-- it fits 33 bits
pub after_low : (expected : ℕ) (ls : List (List ℕ)) → expected < 8589934592 → number_after expected ls < 8589934592
unfolding number_after following
after_low expected [] h = h
after_low expected (l ∷ ls) h = after_low (following (number_in l)) ls (omega (arith, number_low l))

-- a right number
pub any_right : (n : ℕ) → 0 < n → wrong_number 0 n ≡ false
unfolding wrong_number
any_right n h = ne_eqb n 0 (omega arith)

pub next_right : (n : ℕ) → 0 < n → wrong_number n n ≡ false
unfolding wrong_number
next_right n h = simp (ne_eqb n 0 (omega arith), eq-eqb n n refl)

-- a number that is right where one is expected is that one
pub right_same : (expected number : ℕ) → 0 < expected → wrong_number expected number ≡ false → number ≡ expected
unfolding wrong_number
right_same expected number h e =
    eqb-true number expected (not-false (eqb number expected) (simp (ne_eqb expected 0 (omega arith)) at e))

module _ (y : Layout) (l : List ℕ) where
  -- no character before a place is bad
  abbrev pub Good : ℕ → Type 0
  Good place = (j : ℕ) → j < place → bad_at y l j ≡ false

  -- the first bad character among some: there is none, or it is the one behind good ones
  first_none : (i n : ℕ) → Good (i + n) → first_bad y l i n ≡ i + n
  unfolding first_bad
  first_none i zero good = omega arith
  first_none i (suc n) good =
      simp (good i (omega arith)) (omega (arith, first_none (suc i) n (λ j h. good j (omega arith))))

  first_found : (i n place : ℕ) → i ≤ place → place < i + n → Good place → bad_at y l place ≡ true → first_bad y l i n ≡ place
  unfolding first_bad
  first_found i zero place low high good bad = absurd (omega arith)
  first_found i (suc n) place low high good bad =
      elim (dec_lt i place) [
        | yes h ↦ simp (good i h) (first_found (suc i) n place (omega arith) (omega arith) good bad)
        | no h ↦ let e : i ≡ place = omega arith in simp (e, bad)
      ]

  -- and where it is behind some, they are good
  first_good : (i n : ℕ) → i + n ≤ first_bad y l i n → (j : ℕ) → i ≤ j → j < i + n → bad_at y l j ≡ false
  unfolding first_bad
  first_good i zero e j low high = absurd (omega arith)
  first_good i (suc n) e j low high = go (bad_at y l i) refl e (λ h g. first_good (suc i) n h j g (omega arith))
    where
      go : (b : Bool) → bad_at y l i ≡ b → i + suc n ≤ cond b i (first_bad y l (suc i) n)
          → (suc i + n ≤ first_bad y l (suc i) n → i < j → bad_at y l j ≡ false) → bad_at y l j ≡ false
      go true here late rest = absurd (omega arith)
      go false here late rest =
          elim (dec_lt i j) [
            | yes h ↦ rest (omega arith) h
            | no h ↦ let e : j ≡ i = omega arith in rw e here
          ]

  -- either no character before a place is bad, or some first one is
  pub record FoundBad (n : ℕ) : Type 0 where
    pub place : ℕ
    pub inside : place < n
    pub good : Good place
    pub bad : bad_at y l place ≡ true

  search_bad : (n : ℕ) → Good n ⊎ FoundBad n
  search_bad zero = inl (λ j h. absurd (omega arith))
  search_bad (suc n) =
      ⊎_elim (λ good. go good (bad_at y l n) refl)
      (λ f. let i = f.inside in inr (record { place = f.place; inside = omega arith; good = f.good; bad = f.bad })) (search_bad n)
    where
      go : Good n → (b : Bool) → bad_at y l n ≡ b → Good (suc n) ⊎ FoundBad (suc n)
      go good true e = inr (record { place = n; inside = omega arith; good = good; bad = e })
      go good false e = inl (λ j h. elim (dec_lt j n) [ yes i ↦ good j i | no i ↦ let same : j ≡ n = omega arith in rw same e ])

  module _ (wide : figure_width ≤ y.text) (expected : ℕ) where
    -- a line whose number has good digits and is wrong
    pub fault_number : Good figure_width → wrong_number expected (number_in l) ≡ true → line_fault y expected l ≡ 0
    unfolding line_fault
    fault_number good wrong = simp (first_none 0 figure_width good, wrong)

    -- a bad character, which is in the number or behind one that is right
    pub fault_character : (place : ℕ) → place < length_of y → Good place → bad_at y l place ≡ true
        → (figure_width ≤ place → wrong_number expected (number_in l) ≡ false) → line_fault y expected l ≡ place
    unfolding line_fault
    fault_character place inside good bad right =
        elim (dec_lt place figure_width) [
          | yes h ↦ simp (first_found 0 figure_width place (omega arith) h good bad, lt-ltb place figure_width h)
          | no h ↦
              simp (
                first_none 0 figure_width (λ j g. good j (omega arith)),
                right (omega arith),
                first_found figure_width (length_of y - figure_width) place (omega arith) (omega arith) good bad,
                lt-ltb place (length_of y) inside,
              )
        ]

    -- none is bad and the number is right: the late test is left
    pub fault_late : Good (length_of y) → wrong_number expected (number_in l) ≡ false
        → line_fault y expected l ≡ cond (y.late l) y.late_place (length_of y)
    unfolding line_fault
    fault_late good right =
        let all : figure_width + (length_of y - figure_width) ≡ length_of y = omega arith in
        simp (
          first_none 0 figure_width (λ j g. good j (omega arith)),
          right,
          first_none figure_width (length_of y - figure_width) (λ j g. good j (omega arith)),
          all,
          le-ltb (length_of y) (length_of y) (omega arith),
        )

    -- it has failed, or the line has no fault
    pub fault_whole : Good (length_of y) → wrong_number expected (number_in l) ≡ false → y.late l ≡ true
        → line_fault y expected l ≡ y.late_place
    fault_whole good right failed = fault_late good right ∙ simp failed

    pub fault_none : Good (length_of y) → wrong_number expected (number_in l) ≡ false → y.late l ≡ false
        → line_fault y expected l ≡ length_of y
    fault_none good right passed = fault_late good right ∙ simp passed

    -- a line has no fault, or one at a place
    pub data Judged : Type 0 where
      is_fine : Good (length_of y) → wrong_number expected (number_in l) ≡ false → y.late l ≡ false → Judged
      has_bad_character : (place : ℕ) → place < length_of y → Good place → bad_at y l place ≡ true
          → (figure_width ≤ place → wrong_number expected (number_in l) ≡ false) → Judged
      has_bad_number : Good figure_width → wrong_number expected (number_in l) ≡ true → Judged
      fails_late : Good (length_of y) → wrong_number expected (number_in l) ≡ false → y.late l ≡ true → Judged

    pub judged : Judged
    judged = go (wrong_number expected (number_in l)) refl (search_bad figure_width)
      where
        by_late : (b : Bool) → y.late l ≡ b → Good (length_of y) → wrong_number expected (number_in l) ≡ false → Judged
        by_late true e good right = fails_late good right e
        by_late false e good right = is_fine good right e

        go : (w : Bool) → wrong_number expected (number_in l) ≡ w → Good figure_width ⊎ FoundBad figure_width → Judged
        go w e (inr f) =
            let i = f.inside in
            has_bad_character f.place (omega arith) f.good f.bad (λ h. absurd (omega arith))
        go true e (inl good) = has_bad_number good e
        go false e (inl good) =
            ⊎_elim (λ all. by_late (y.late l) refl all e)
            (λ f. has_bad_character f.place f.inside f.good f.bad (λ h. e)) (search_bad (length_of y))

    -- a line without a fault has good characters and a right number
    faultless : ltb (line_fault y expected l) (length_of y) ≡ false → Good (length_of y) × (wrong_number expected (number_in l) ≡ false)
    unfolding line_fault
    faultless = go (ltb (first_bad y l 0 figure_width) figure_width) refl (wrong_number expected (number_in l)) refl
        (ltb (first_bad y l figure_width (length_of y - figure_width)) (length_of y)) refl
      where
        go : (b : Bool) → ltb (first_bad y l 0 figure_width) figure_width ≡ b → (w : Bool) → wrong_number expected (number_in l) ≡ w
            → (d : Bool) → ltb (first_bad y l figure_width (length_of y - figure_width)) (length_of y) ≡ d
            → ltb (line_fault y expected l) (length_of y) ≡ false → Good (length_of y) × (w ≡ false)
        go true early w e d f fine =
            let low = ltb-true (first_bad y l 0 figure_width) figure_width early in
            absurd (omega (arith, ltb-false (first_bad y l 0 figure_width) (length_of y) (simp early at fine)))
        go false late true e d f fine = absurd (omega (arith, ltb-false 0 (length_of y) (simp (late, e) at fine)))
        go false late false e true f fine = absurd (true≢false (simp (late, e, f) at fine))
        go false late false e false f fine = (
          λ j h.
              elim (dec_lt j figure_width) [
                | yes i ↦ first_good 0 figure_width (ltb-false _ figure_width late) j (omega arith) i
                | no i ↦
                    first_good figure_width (length_of y - figure_width) (omega (arith, ltb-false _ (length_of y) f)) j (omega arith) (omega arith)
              ],
          refl,
        )

module _ (y : Layout) where
  -- lines of which the first has no fault check as the rest does, and sound lines begin so
  check_first : (l : List ℕ) (ls : List (List ℕ)) (expected at : ℕ) → (check_lines_by y expected at (l ∷ ls)).refusal ≡ 0
      → (ltb (line_fault y expected l) (length_of y) ≡ false)
      × ((check_lines_by y (following (number_in l)) (at + length_of y) ls).refusal ≡ 0)
  unfolding check_lines_by
  check_first l ls expected at = go (ltb (line_fault y expected l) (length_of y))
    where
      go : (b : Bool) → (cond b (unsound (at + line_fault y expected l)) (check_lines_by y (following (number_in l)) (at + length_of y) ls)).refusal ≡ 0
          → (b ≡ false) × ((check_lines_by y (following (number_in l)) (at + length_of y) ls).refusal ≡ 0)
      go true e = absurd (omega arith)
      go false e = (refl, e)

  -- lines that check sound do so with one more line at the end that has no fault
  pub check_more : (ls : List (List ℕ)) (l : List ℕ) (expected at : ℕ) → (check_lines_by y expected at ls).refusal ≡ 0
      → line_fault y (number_after expected ls) l ≡ length_of y → (check_lines_by y expected at (ls ++ (l ∷ []))).refusal ≡ 0
  unfolding check_lines_by number_after
  check_more [] l expected at good new = simp (new, le-ltb (length_of y) (length_of y) (omega arith))
  check_more (m ∷ ls) l expected at good new =
      let first = check_first m ls expected at good in
      simp first.0 (check_more ls l (following (number_in m)) (at + length_of y) first.1 new)

  module _ (wide : figure_width ≤ y.text) where
    -- the numbers of sound lines rise by one, from the expected one where one is expected
    rising : (ls : List (List ℕ)) (expected at k : ℕ) → 0 < expected → (check_lines_by y expected at ls).refusal ≡ 0
        → k < length ls → number_in (get_or ls k []) ≡ expected + k
    unfolding following
    rising [] expected at k some good h = absurd (omega arith)
    rising (l ∷ ls) expected at zero some good h =
        omega (
          arith,
          right_same expected (number_in l) some
              (faultless y l wide expected (check_first l ls expected at good).0).1,
        )
    rising (l ∷ ls) expected at (suc k) some good h =
        let first = check_first l ls expected at good in
        let same = right_same expected (number_in l) some (faultless y l wide expected first.0).1 in
        omega (arith, rising ls (following (number_in l)) (at + length_of y) k (omega arith) first.1 (omega arith))

    -- the characters of each are good
    pub sound_good : (ls : List (List ℕ)) (expected at k : ℕ) → (check_lines_by y expected at ls).refusal ≡ 0 → k < length ls
        → Good y (get_or ls k []) (length_of y)
    sound_good [] expected at k good h = absurd (omega arith)
    sound_good (l ∷ ls) expected at zero good h = (faultless y l wide expected (check_first l ls expected at good).0).0
    sound_good (l ∷ ls) expected at (suc k) good h =
        sound_good ls (following (number_in l)) (at + length_of y) k (check_first l ls expected at good).1 (omega arith)

    -- so a sound register's line k has the first line's number plus k
    pub sound_number : (ls : List (List ℕ)) (at k : ℕ) → (check_lines_by y 0 at ls).refusal ≡ 0 → k < length ls
        → number_in (get_or ls k []) ≡ number_in (get_or ls 0 []) + k
    unfolding following
    sound_number [] at k good h = absurd (omega arith)
    sound_number (l ∷ ls) at zero good h = omega arith
    sound_number (l ∷ ls) at (suc k) good h =
        omega (arith, rising ls (following (number_in l)) (at + length_of y) k (omega arith) (check_first l ls 0 at good).1 (omega arith))

-- a good used length lies in the buffer and is whole lines
module _ (y : Layout) where
  pub used_sound : (buffer used : ℕ) → bad_used_by y buffer used ≡ false → (used ≤ buffer) × (used % length_of y ≡ 0)
  unfolding bad_used_by
  used_sound buffer used e =
      let exact = not-false (eqb (used % length_of y) 0) (or_right (ltb buffer used) _ e) in
      (ltb-false buffer used (or_left (ltb buffer used) _ e), eqb-true (used % length_of y) 0 exact)

  pub whole_used : (buffer : ℕ) (ls : List (List ℕ)) → Whole y ls → used_by ls ≤ buffer → bad_used_by y buffer (used_by ls) ≡ false
  unfolding bad_used_by
  whole_used buffer ls h room =
      simp (whole_length y ls h, le-ltb buffer (length ls * length_of y) (omega (arith, whole_length y ls h)), mul-mod_left)

  -- what the check finds: a bad used length as itself, else what its lines give
  pub check_used : (r : Register) → bad_used_by y (length r.bytes) r.used ≡ true → check_by y r ≡ unsound r.used
  unfolding check_by
  check_used r bad = simp bad

  pub check_whole : (r : Register) → bad_used_by y (length r.bytes) r.used ≡ false
      → check_by y r ≡ check_lines_by y 0 0 (used_lines_by y r)
  unfolding check_by
  check_whole r fine = simp fine

  check_refused : (r : Register) → bad_used_by y (length r.bytes) r.used ≡ true → (check_by y r).refusal ≡ 11
  unfolding check_by
  check_refused r bad = simp bad

  -- a register without a fault has a good used length and sound lines
  pub check_sound : (r : Register) → (check_by y r).refusal ≡ 0
      → (r.used ≤ length r.bytes) × (r.used % length_of y ≡ 0) × ((check_lines_by y 0 0 (used_lines_by y r)).refusal ≡ 0)
  check_sound r e = go (bad_used_by y (length r.bytes) r.used) refl
    where
      go : (b : Bool) → bad_used_by y (length r.bytes) r.used ≡ b
          → (r.used ≤ length r.bytes) × (r.used % length_of y ≡ 0) × ((check_lines_by y 0 0 (used_lines_by y r)).refusal ≡ 0)
      go true bad = absurd (omega (arith, e, check_refused r bad))
      go false fine =
          let u = used_sound (length r.bytes) r.used fine in
          (u.0, u.1, sym (ap (λ (k : Checked). k.refusal) (check_whole r fine)) ∙ e)

-- the layout of a line has room for its number, and a written line has no fault where its number is right
pub number_inside : figure_width ≤ text_length
unfolding text_length
number_inside = omega arith

written_good : (k : ℕ) (c : List ℕ) → Good line_layout (line_for k c) line_length
unfolding bad_at
written_good k c i h =
    elim (dec_lt i text_length) [
      | yes l ↦ simp (lt-ltb i text_length l, line_digit k c i l)
      | no l ↦
          let e : i ≡ text_length = omega arith in
          simp (e, le-ltb text_length text_length (omega arith), line_end k c)
    ]

pub written_faultless : (k : ℕ) (c : List ℕ) → k < 4294967296 → (expected : ℕ) → wrong_number expected k ≡ false
    → line_fault line_layout expected (line_for k c) ≡ line_length
written_faultless k c low expected right =
    fault_late line_layout (line_for k c) number_inside expected (written_good k c) (rw (number_back k c low) right)
