-- The check is what is claimed of it, for any layout and any words of its late test. Each line is judged by the laws of its
-- fault; lines are judged by induction, with the number that the first of them must have; a register's lines are parts of its
-- bytes. Assumes nothing.
use Prim.Native.Nat.{ℕ, zero, suc, ◌+◌, ◌/◌, ◌%◌, ◌≤◌, ◌<◌}
use mathlib.Core.Bool.{Bool, true, false, true≢false}
use mathlib.Core.List.{List, [], ◌∷◌}
use mathlib.Core.Logic.{◌⊎◌, inl, inr, ⊎_elim}
use mathlib.Core.Path.{◌≡◌, refl, sym, ◌∙◌, ap, subst}
use native.Mathlib.Decide.{dec_lt}
use native.Mathlib.Nat.{suc-mul, zero-mul, mul-mod_left, mul-div_cancel, div-add-mod'}
use native.Mathlib.Omega.{arith}
use lib.ListN.{length, get_or}
use borrow.Author.Tests.{lt-ltb, le-ltb, eqb-true, eqb-false, not-false}
use Rattle.split.proofs.FrameLaws.{digit_range}
use Rattle.register.specs.Answers.{Checked}
use Rattle.register.specs.Line.{figure_width, text_length, number_in}
use Rattle.register.specs.Layout.{Layout, Register, length_of, used_lines_by, line_layout}
use Rattle.register.specs.Check.{following, wrong_number, sound, unsound, bad_at, line_fault, check_lines_by, bad_used_by, check_by}
use Rattle.register.specs.CheckClaim.{Stands, StandTo, nth_line, Rises, SoundLine, LineWrong, SoundTo, FirstWrong, WholeUsed, CheckClaim, CheckedRight}
use Rattle.register.proofs.LayoutLaws.{cut_count, cut_at}
use Rattle.register.proofs.CheckLaws.{Good, Judged, is_fine, has_bad_character, has_bad_number, fails_late, judged, fault_number, fault_character, fault_whole, fault_none, any_right, next_right, right_same, used_sound, check_used, check_whole, number_inside}

-- a character that is not bad may stand where it does, and one that may is not bad
module _ (y : Layout) (l : List ℕ) where
  stands : (j : ℕ) → bad_at y l j ≡ false → Stands y.text j (get_or l j 0)
  unfolding bad_at
  stands j e = (
    λ h. (digit_range (get_or l j 0)).0 (simp (lt-ltb j y.text h) at e),
    λ h. eqb-true (get_or l j 0) 10 (not-false _ (simp (le-ltb j y.text h) at e)),
  )

  not_bad : (j : ℕ) → Stands y.text j (get_or l j 0) → bad_at y l j ≡ false
  unfolding bad_at
  not_bad j s =
      elim (dec_lt j y.text) [
        | yes h ↦ simp (lt-ltb j y.text h, (digit_range (get_or l j 0)).1 (s.0 h))
        | no h ↦ let end : y.text ≤ j = omega arith in simp (le-ltb j y.text end, s.1 end)
      ]

  stand_to : (place : ℕ) → Good y l place → StandTo y.text l place
  stand_to place good j h = stands j (good j h)

  not_stands : (j : ℕ) → bad_at y l j ≡ true → Stands y.text j (get_or l j 0) → ⊥
  not_stands j e s = true≢false (sym e ∙ not_bad j s)

-- what is known of a line, told with other words for a right number
module _ (digits : ℕ) (Fails : List ℕ → Type 0) (fail_place : ℕ) (P Q : Type 0) (l : List ℕ) where
  sound_as : (P → Q) → SoundLine digits Fails P l → SoundLine digits Fails Q l
  sound_as to s = record { characters = s.characters; right = to s.right; passed = s.passed }

  wrong_as : (place : ℕ) → (P → Q) → (Q → P) → LineWrong digits Fails fail_place P l place → LineWrong digits Fails fail_place Q l place
  wrong_as place to back =
      ⊎_elim (λ w. inl (record { inside = w.inside; before = w.before; right = λ h. to (w.right h); wrong = w.wrong }))
      (⊎_elim (λ w. inr (inl (record { reported = w.reported; figures = w.figures; wrong = λ q. w.wrong (back q) })))
      (λ w. inr (inr (record { reported = w.reported; characters = w.characters; right = to w.right; wrong = w.wrong }))))

-- a sound line has nothing wrong
sound_not_wrong : (digits : ℕ) (Fails : List ℕ → Type 0) (fail_place : ℕ) (P : Type 0) (l : List ℕ) (place : ℕ) → SoundLine digits Fails P l
    → LineWrong digits Fails fail_place P l place → ⊥
sound_not_wrong digits Fails fail_place P l place s =
    ⊎_elim (λ w. w.wrong (s.characters place w.inside))
    (⊎_elim (λ w. w.wrong s.right) (λ w. s.passed w.wrong))

-- for any layout and any words of its late test
module _ (y : Layout) (wide : figure_width ≤ y.text) (late_inside : y.late_place < length_of y) (Fails : List ℕ → Type 0) (late_so : (l : List ℕ) → y.late l ≡ true → Fails l)
    (late_not : (l : List ℕ) → y.late l ≡ false → Fails l → ⊥) where
  abbrev Fine : Type 0 → List ℕ → Type 0
  Fine Right l = SoundLine y.text Fails Right l

  abbrev Wrong : Type 0 → List ℕ → ℕ → Type 0
  Wrong Right l place = LineWrong y.text Fails y.late_place Right l place

  -- a line that must have an expected number: nothing is wrong with it and it has no fault, or something is where its fault is
  record Faulty (expected : ℕ) (l : List ℕ) : Type 0 where
    place : ℕ
    at : line_fault y expected l ≡ place
    inside : place < length_of y
    wrong : Wrong (wrong_number expected (number_in l) ≡ false) l place

  line_judged : (expected : ℕ) (l : List ℕ)
      → ((line_fault y expected l ≡ length_of y) × Fine (wrong_number expected (number_in l) ≡ false) l) ⊎ Faulty expected l
  line_judged expected l = go (judged y l wide expected)
    where
      go : Judged y l wide expected
          → ((line_fault y expected l ≡ length_of y) × Fine (wrong_number expected (number_in l) ≡ false) l) ⊎ Faulty expected l
      go (is_fine good right passed) =
          inl (
            fault_none y l wide expected good right passed,
            record { characters = stand_to y l (length_of y) good; right = right; passed = late_not l passed },
          )
      go (has_bad_character place h good bad right) =
          inr (record {
            place = place;
            at = fault_character y l wide expected place h good bad right;
            inside = h;
            wrong = inl (record { inside = h; before = stand_to y l place good; right = right; wrong = not_stands y l place bad });
          })
      go (has_bad_number good wrong) =
          inr (record {
            place = 0;
            at = fault_number y l wide expected good wrong;
            inside = omega arith;
            wrong = inr (inl (record { reported = refl; figures = stand_to y l figure_width good; wrong = λ right. true≢false (sym wrong ∙ right) }));
          })
      go (fails_late good right failed) =
          inr (record {
            place = y.late_place;
            at = fault_whole y l wide expected good right failed;
            inside = late_inside;
            wrong = inr (inr (record { reported = refl; characters = stand_to y l (length_of y) good; right = right; wrong = late_so l failed }));
          })

  -- lines of which the first must have an expected number
  abbrev RisesFrom : ℕ → List (List ℕ) → ℕ → Type 0
  RisesFrom expected ls zero = wrong_number expected (number_in (get_or ls zero [])) ≡ false
  RisesFrom expected ls (suc k) = number_in (get_or ls (suc k) []) ≡ number_in (get_or ls k []) + 1

  abbrev nth : List (List ℕ) → ℕ → List ℕ
  nth ls k = get_or ls k []

  -- behind a line its number plus one is expected
  rises_behind : (expected : ℕ) (l : List ℕ) (ls : List (List ℕ)) (k : ℕ) → RisesFrom (following (number_in l)) ls k → RisesFrom expected (l ∷ ls) (suc k)
  unfolding following
  rises_behind expected l ls zero e = right_same (number_in l + 1) (number_in (get_or ls zero [])) (omega arith) e
  rises_behind expected l ls (suc k) e = e

  rises_back : (expected : ℕ) (l : List ℕ) (ls : List (List ℕ)) (k : ℕ) → RisesFrom expected (l ∷ ls) (suc k) → RisesFrom (following (number_in l)) ls k
  unfolding following
  rises_back expected l ls zero e = rw e (next_right (number_in l + 1) (omega arith))
  rises_back expected l ls (suc k) e = e

  record Stopped (expected at : ℕ) (ls : List (List ℕ)) : Type 0 where
    offset : ℕ
    found : check_lines_by y expected at ls ≡ unsound (at + offset)
    first : FirstWrong y.text Fails y.late_place (RisesFrom expected ls) (nth ls) (length ls) offset

  lines_judged : (ls : List (List ℕ)) (expected at : ℕ)
      → ((check_lines_by y expected at ls ≡ sound) × SoundTo y.text Fails (RisesFrom expected ls) (nth ls) (length ls)) ⊎ Stopped expected at ls
  unfolding check_lines_by
  lines_judged [] expected at = inl (refl, λ k h. absurd (omega arith))
  lines_judged (l ∷ ls) expected at =
      ⊎_elim
      (λ fine.
      let next : check_lines_by y expected at (l ∷ ls) ≡ check_lines_by y (following (number_in l)) (at + length_of y) ls =
      simp (fine.0, le-ltb (length_of y) (length_of y) (omega arith))
      in
      ⊎_elim (λ rest. inl (next ∙ rest.0, begun fine.1 (length ls) rest.1)) (λ rest. inr (behind fine.1 next rest))
      (lines_judged ls (following (number_in l)) (at + length_of y)))
      (λ bad.
      inr (record {
        offset = bad.place;
        found = simp (bad.at, lt-ltb bad.place (length_of y) bad.inside);
        first = record {
          line = 0;
          inside = omega arith;
          before = λ k h. absurd (omega arith);
          place = bad.place;
          there = omega (arith, zero-mul (length_of y));
          wrong = bad.wrong;
        };
      }))
      (line_judged expected l)
    where
      begun : Fine (wrong_number expected (number_in l) ≡ false) l → (n : ℕ)
          → ((k : ℕ) → k < n → Fine (RisesFrom (following (number_in l)) ls k) (get_or ls k []))
          → (k : ℕ) → k < suc n → Fine (RisesFrom expected (l ∷ ls) k) (get_or (l ∷ ls) k [])
      begun here n rest zero h = here
      begun here n rest (suc k) h =
          sound_as y.text Fails y.late_place _ _ (get_or ls k []) (rises_behind expected l ls k) (rest k (omega arith))

      behind : Fine (wrong_number expected (number_in l) ≡ false) l
          → check_lines_by y expected at (l ∷ ls) ≡ check_lines_by y (following (number_in l)) (at + length_of y) ls
          → Stopped (following (number_in l)) (at + length_of y) ls → Stopped expected at (l ∷ ls)
      behind here next s =
          let f = s.first in
          let i = f.inside in
          record {
            offset = length_of y + s.offset;
            found = next ∙ s.found ∙ ap unsound (omega arith);
            first = record {
              line = suc f.line;
              inside = omega arith;
              before = begun here f.line f.before;
              place = f.place;
              there = omega (arith, f.there, suc-mul f.line (length_of y));
              wrong =
                  wrong_as y.text Fails y.late_place _ _ (get_or ls f.line []) f.place (rises_behind expected l ls f.line)
                  (rises_back expected l ls f.line) f.wrong;
            };
          }

  module _ (r : Register) where
    abbrev lines : List (List ℕ)
    lines = used_lines_by y r

    abbrev line : ℕ → List ℕ
    line = nth_line y.text r.bytes

    used_whole : bad_used_by y (length r.bytes) r.used ≡ false → WholeUsed y.text r
    used_whole e =
        let u = used_sound y (length r.bytes) r.used e in
        record { inside = u.0; count = r.used / length_of y; whole = omega (arith, div-add-mod' r.used (length_of y), u.1) }

    used_good : WholeUsed y.text r → bad_used_by y (length r.bytes) r.used ≡ false
    unfolding bad_used_by
    used_good w =
        let exact : r.used % length_of y ≡ 0 = ap (λ (n : ℕ). n % length_of y) w.whole ∙ mul-mod_left w.count (length_of y) in
        simp (le-ltb (length r.bytes) r.used w.inside, exact)

    counted : (w : WholeUsed y.text r) → length lines ≡ w.count
    counted w =
        let positive : 0 < length_of y = omega arith in
        cut_count y (r.used / length_of y) r.bytes
        ∙ ap (λ (n : ℕ). n / length_of y) w.whole ∙ mul-div_cancel w.count positive

    -- the lines cut are the parts of the bytes, and from the first on any number from 1 is right
    cut_line : (k : ℕ) → k < length lines → get_or lines k [] ≡ line k
    cut_line k h = cut_at y (r.used / length_of y) r.bytes k (omega (arith, cut_count y (r.used / length_of y) r.bytes))

    rises_any : (k : ℕ) → k < length lines → RisesFrom 0 lines k → Rises line k
    unfolding wrong_number number_in
    rises_any zero h e =
        let some : 0 < number_in (get_or lines zero []) = omega (arith, eqb-false (number_in (get_or lines zero [])) 0 e) in
        rw (cut_line zero h) at some
    rises_any (suc k) h e = rw (cut_line (suc k) h, cut_line k (omega arith)) at e

    any_rises : (k : ℕ) → k < length lines → Rises line k → RisesFrom 0 lines k
    unfolding number_in
    any_rises zero h e = any_right (number_in (get_or lines zero [])) (rw (cut_line zero h) e)
    any_rises (suc k) h e = rw (cut_line (suc k) h, cut_line k (omega arith)) e

    fine_line : (k : ℕ) → k < length lines → Fine (RisesFrom 0 lines k) (get_or lines k []) → Fine (Rises line k) (line k)
    fine_line k h s =
        subst (λ (l : List ℕ). Fine (Rises line k) l) (cut_line k h)
        (sound_as y.text Fails y.late_place _ _ (get_or lines k []) (rises_any k h) s)

    -- the three ends of a check
    Outcome : Checked → Type 0
    Outcome found =
        ((found ≡ sound) × ((w : WholeUsed y.text r) × SoundTo y.text Fails (Rises line) line w.count))
        ⊎ (((WholeUsed y.text r → ⊥) × (found ≡ unsound r.used))
        ⊎ ((w : WholeUsed y.text r) × (offset : ℕ) × (found ≡ unsound offset) × FirstWrong y.text Fails y.late_place (Rises line) line w.count offset))

    outcome : Outcome (check_by y r)
    unfolding Outcome
    outcome = go (bad_used_by y (length r.bytes) r.used) refl
      where
        go : (b : Bool) → bad_used_by y (length r.bytes) r.used ≡ b → Outcome (check_by y r)
        go true e = inr (inl (λ w. true≢false (sym e ∙ used_good w), check_used y r e))
        go false e =
            let w = used_whole e in
            let n = counted w in
            ⊎_elim
            (λ s. inl (check_whole y r e ∙ s.0, (w, λ k h. let i : k < length lines = omega arith in fine_line k i (s.1 k i))))
            (λ s.
            let f = s.first in
            let i = f.inside in
            inr (inr (
              w,
              s.offset,
              check_whole y r e ∙ s.found ∙ ap unsound (omega arith),
              record {
                line = f.line;
                inside = omega arith;
                before = λ k h. fine_line k (omega arith) (f.before k h);
                place = f.place;
                there = f.there;
                wrong =
                    subst (λ (l : List ℕ). Wrong (Rises line f.line) l f.place) (cut_line f.line i)
                    (wrong_as y.text Fails y.late_place _ _ (get_or lines f.line []) f.place (rises_any f.line i) (any_rises f.line i) f.wrong);
              },
            )))
            (lines_judged lines 0 0)

    pub check_claim : CheckClaim y.text Fails y.late_place r (check_by y r)
    unfolding Outcome
    check_claim = record {
      passes = λ w all.
          ⊎_elim (λ s. s.0)
          (⊎_elim (λ s. absurd (s.0 w))
          (λ s.
          let f = s.3 in
          let same : s.0.count ≡ w.count = sym (counted s.0) ∙ counted w in
          let i = f.inside in
          absurd (sound_not_wrong y.text Fails y.late_place _ (line f.line) f.place (all f.line (omega arith)) f.wrong)))
          outcome;
      passed = λ none.
          ⊎_elim (λ s. s.1)
          (⊎_elim (λ s. absurd (omega (arith, none, ap (λ (k : Checked). k.refusal) s.1)))
          (λ s. absurd (omega (arith, none, ap (λ (k : Checked). k.refusal) s.2))))
          outcome;
      refused = λ some. ⊎_elim (λ s. absurd (some (ap (λ (k : Checked). k.refusal) s.0))) (λ s. s) outcome;
    }

-- the register's own layout
pub checked_right : (r : Register) → CheckedRight r
unfolding text_length
checked_right r = check_claim line_layout number_inside (omega arith) (λ l. ⊥) (λ l e. true≢false (sym e)) (λ l e f. f) r
