-- Finding a line, for any layout: the last that passes a test is the one at its place, where the test holds and behind which it
-- fails, and the lines older and newer than it with itself are all lines; a number's place among sound lines; what a find
-- answers and how many lines it compares, by the check and by whether some line passes; and that the bytes where a line is
-- located are the line found. By induction on the lines. Assumes nothing.
use Prim.Native.Nat.{ℕ, zero, suc, ◌+◌, ◌*◌, ◌/◌, ◌≤◌, ◌<◌}
use mathlib.Core.Bool.{Bool, true, false, cond, ◌||◌, or-false, false≢true}
use mathlib.Core.List.{List, [], ◌∷◌, ◌++◌}
use Rattle.std.specs.Prelude.{Some}
use mathlib.Core.Path.{◌≡◌, refl, sym, ◌∙◌, ap}
use native.Mathlib.Nat.{suc-mul, div-add-mod', mul-le-mul_right}
use native.Mathlib.Omega.{arith}
use lib.Dec.{eqb}
use lib.ListN.{length, get_or, take, drop}
use borrow.Author.Tests.{eqb-true, eqb-false, eq-eqb, ne_eqb}
use Rattle.calendar.specs.Tests.{any}
use Rattle.calendar.proofs.TestsLaws.{or_left, or_right, any_snoc, none_any, some_any}
use Rattle.register.specs.Answers.{Located, LocatedMember}
use Rattle.register.specs.Line.{figure_width, number_in}
use Rattle.register.specs.Layout.{Register, Layout, length_of, used_lines_by}
use Rattle.register.specs.Check.{check_lines_by, check_by}
use Rattle.register.specs.Find.{has_number, has_member, last_where, last_place, find_refusal_by, find_line_by, locate_by, newer_lines, with_found, lines_compared, compared_by, locate_member_by}
use Rattle.register.specs.Scan.{FoundAt}
use Rattle.register.proofs.LayoutLaws.{cut_count, cut_at}
use Rattle.register.proofs.CheckLaws.{sound_number, check_sound}

module _ (f : List ℕ → Bool) where
  -- the last line is the one at the last place
  pub last_line : (ls : List (List ℕ)) → any f ls ≡ true → (last_place f ls < length ls) × (last_where f ls ≡ get_or ls (last_place f ls) [])
  unfolding last_where last_place
  last_line [] e = absurd (false≢true e)
  last_line (l ∷ ls) e = go (any f ls) refl (last_line ls)
    where
      go : (b : Bool) → any f ls ≡ b
          → (any f ls ≡ true → (last_place f ls < length ls) × (last_where f ls ≡ get_or ls (last_place f ls) []))
          → (last_place f (l ∷ ls) < length (l ∷ ls)) × (last_where f (l ∷ ls) ≡ get_or (l ∷ ls) (last_place f (l ∷ ls)) [])
      go true a later = simp a (omega (arith, (later a).0), (later a).1)
      go false a later =
          let here : f l ≡ true = sym (or-false (f l)) ∙ simp a at e in
          simp (a, here) (omega arith, refl)

  last_none : (ls : List (List ℕ)) → any f ls ≡ false → last_where f ls ≡ []
  unfolding last_where
  last_none [] e = refl
  last_none (l ∷ ls) e = simp (or_left (f l) (any f ls) e, or_right (f l) (any f ls) e)

  -- it is at a place where the test holds and behind which it fails
  pub last_at : (ls : List (List ℕ)) (k : ℕ) → k < length ls → f (get_or ls k []) ≡ true
      → ((j : ℕ) → k < j → j < length ls → f (get_or ls j []) ≡ false) → last_place f ls ≡ k
  unfolding last_place
  last_at [] k h here behind = absurd (omega arith)
  last_at (l ∷ ls) zero h here behind =
      simp (none_any f ls [] (λ j i. behind (suc j) (omega arith) (omega arith)))
  last_at (l ∷ ls) (suc k) h here behind =
      simp (some_any f ls k [] (omega arith) here, last_at ls k (omega arith) here (λ j i m. behind (suc j) (omega arith) (omega arith)))

  -- the lines older than it, itself and those newer are all lines
  pub last_newer : (ls : List (List ℕ)) → any f ls ≡ true → last_place f ls + suc (newer_lines f ls) ≡ length ls
  unfolding last_place newer_lines
  last_newer [] e = absurd (false≢true e)
  last_newer (l ∷ ls) e = go (any f ls) refl (last_newer ls)
    where
      go : (b : Bool) → any f ls ≡ b → (any f ls ≡ true → last_place f ls + suc (newer_lines f ls) ≡ length ls)
          → last_place f (l ∷ ls) + suc (newer_lines f (l ∷ ls)) ≡ length (l ∷ ls)
      go true a later = simp a (omega (arith, later a))
      go false a later =
          let here : f l ≡ true = sym (or-false (f l)) ∙ simp a at e in
          simp (a, here) (omega arith)

  -- with one more line at the end
  pub place_snoc : (ls : List (List ℕ)) (l : List ℕ) → last_place f (ls ++ (l ∷ [])) ≡ cond (f l) (length ls) (last_place f ls)
  unfolding last_place
  place_snoc [] l = go (f l)
    where
      go : (b : Bool) → ◌≡◌ {A = ℕ} 0 (cond b 0 0)
      go true = refl
      go false = refl
  place_snoc (m ∷ ls) l = simp (any_snoc f ls l, place_snoc ls l) (go (f l) (any f ls))
    where
      go : (b a : Bool) → cond (a || b) (suc (cond b (length ls) (last_place f ls))) 0
          ≡ cond b (suc (length ls)) (cond a (suc (last_place f ls)) 0)
      go true true = refl
      go true false = refl
      go false true = refl
      go false false = refl

-- a number among sound lines: they rise by one from the first's, so its line is as far behind the first as it is above that
module _ (y : Layout) (wide : figure_width ≤ y.text) (ls : List (List ℕ)) (sound : (check_lines_by y 0 0 ls).refusal ≡ 0)
    (first number : ℕ) (begins : 0 < length ls → number_in (get_or ls 0 []) ≡ first) where
  number_by_place : (k : ℕ) → k < length ls → number_in (get_or ls k []) ≡ first + k
  number_by_place k h = omega (arith, sound_number y wide ls 0 k sound h, begins (omega arith))

  number_none : ((k : ℕ) → k < length ls → first + k ≡ number → ⊥) → any (has_number number) ls ≡ false
  number_none other = none_any (has_number number) ls [] (λ k h. ne_eqb _ number (λ e. other k h (sym (number_by_place k h) ∙ e)))

  pub number_before : number < first → any (has_number number) ls ≡ false
  number_before low = number_none (λ k i e. omega arith)

  module _ (place : ℕ) (e : first + place ≡ number) where
    pub number_past : length ls ≤ place → any (has_number number) ls ≡ false
    number_past h = number_none (λ k i same. omega arith)

    pub number_found : place < length ls → FoundAt (has_number number) ls (Some place)
    number_found h =
        let here = eq-eqb (number_in (get_or ls place [])) number (number_by_place place h ∙ e) in (
          h,
          some_any (has_number number) ls place [] h here,
          last_at (has_number number) ls place h here (λ j i m. ne_eqb _ number (λ same. omega (arith, number_by_place j m))),
        )

module _ (y : Layout) (f : List ℕ → Bool) (r : Register) where
  -- by what the check gave, and by whether some line passes
  pub by_finding : {P : Type 0} → (((check_by y r).refusal ≡ 0 → ⊥) → P)
      → ((check_by y r).refusal ≡ 0 → any f (used_lines_by y r) ≡ false → P)
      → ((check_by y r).refusal ≡ 0 → any f (used_lines_by y r) ≡ true → P) → P
  by_finding {P} unsound absent found = go (eqb (check_by y r).refusal 0) refl (any f (used_lines_by y r)) refl
    where
      go : (b : Bool) → eqb (check_by y r).refusal 0 ≡ b → (a : Bool) → any f (used_lines_by y r) ≡ a → P
      go false bad a e = unsound (eqb-false (check_by y r).refusal 0 bad)
      go true good false e = absent (eqb-true (check_by y r).refusal 0 good) e
      go true good true e = found (eqb-true (check_by y r).refusal 0 good) e

  -- in each of these cases: the refusal, where the line is, and how many lines are compared
  module _ (bad : (check_by y r).refusal ≡ 0 → ⊥) where
    pub refused_unsound : find_refusal_by y f r ≡ 11
    unfolding find_refusal_by
    refused_unsound = simp (ne_eqb (check_by y r).refusal 0 bad)

    pub locate_unsound : locate_by y f r ≡ record { refusal = 11; offset = 0; length = 0 }
    unfolding locate_by
    locate_unsound = simp refused_unsound

    pub compared_unsound : compared_by y f r ≡ 0
    unfolding compared_by
    compared_unsound = simp (ne_eqb (check_by y r).refusal 0 bad)

  module _ (sound : (check_by y r).refusal ≡ 0) where
    pub compared_sound : compared_by y f r ≡ lines_compared f (used_lines_by y r)
    unfolding compared_by
    compared_sound = simp sound

    module _ (none : any f (used_lines_by y r) ≡ false) where
      pub refused_absent : find_refusal_by y f r ≡ 14
      unfolding find_refusal_by
      refused_absent = simp (sound, none)

      pub locate_absent : locate_by y f r ≡ record { refusal = 14; offset = 0; length = 0 }
      unfolding locate_by
      locate_absent = simp refused_absent

      pub compared_absent : compared_by y f r ≡ length (used_lines_by y r)
      unfolding lines_compared
      compared_absent = compared_sound ∙ simp none

    module _ (some : any f (used_lines_by y r) ≡ true) where
      pub refused_none : find_refusal_by y f r ≡ 0
      unfolding find_refusal_by
      refused_none = simp (sound, some)

      pub locate_found : locate_by y f r ≡ record { refusal = 0; offset = last_place f (used_lines_by y r) * length_of y; length = length_of y }
      unfolding locate_by
      locate_found = simp refused_none

      pub compared_found : compared_by y f r ≡ with_found (newer_lines f (used_lines_by y r))
      unfolding lines_compared
      compared_found = compared_sound ∙ simp some

    -- a line that passes and behind which none does is the one found
    pub found_at : (k : ℕ) → k < length (used_lines_by y r) → f (get_or (used_lines_by y r) k []) ≡ true
        → ((j : ℕ) → k < j → j < length (used_lines_by y r) → f (get_or (used_lines_by y r) j []) ≡ false)
        → (find_refusal_by y f r ≡ 0) × (find_line_by y f r ≡ get_or (used_lines_by y r) k [])
    unfolding find_line_by
    found_at k h here behind =
        let some = some_any f (used_lines_by y r) k [] h here in
        let last = last_at f (used_lines_by y r) k h here behind in
        (refused_none some, simp sound ((last_line f (used_lines_by y r) some).1 ∙ ap (λ (n : ℕ). get_or (used_lines_by y r) n []) last))

  -- the bytes where a line is located are the line found, within the register; none under a refusal
  pub record Within (at : Located) : Type 0 where
    pub inside : at.offset + at.length ≤ length r.bytes
    pub line : take at.length (drop at.offset r.bytes) ≡ find_line_by y f r

  located_line : Within (locate_by y f r)
  unfolding find_line_by
  located_line =
      by_finding
      (λ bad. rw (locate_unsound bad) (record { inside = omega arith; line = simp (ne_eqb (check_by y r).refusal 0 bad) }))
      (λ sound none.
      rw (locate_absent sound none) (record { inside = omega arith; line = simp sound (sym (last_none f (used_lines_by y r) none)) }))
      (λ sound some.
      let last = last_line f (used_lines_by y r) some in
      let count = cut_count y (r.used / length_of y) r.bytes in
      let place = last_place f (used_lines_by y r) in
      let inner : place < r.used / length_of y = omega arith in
      let next : suc place ≤ r.used / length_of y = omega arith in
      rw (locate_found sound some)
      (record {
        inside =
            omega (
              arith,
              suc-mul place (length_of y),
              mul-le-mul_right (length_of y) next,
              div-add-mod' r.used (length_of y),
              (check_sound y r sound).0,
            );
        line =
            simp sound (sym (last.1 ∙ cut_at y (r.used / length_of y) r.bytes place inner));
      }))

  pub located_within : (at : Located) → at ≡ locate_by y f r → Within at
  located_within at e = rw e located_line

-- where a member's newest line is located, the bytes are that line
pub member_within : (y : Layout) (member : ℕ) (r : Register) (found : LocatedMember) → found ≡ locate_member_by y member r
    → Within y (has_member member) r found.located
unfolding locate_member_by
member_within y member r found e =
    located_within y (has_member member) r found.located (ap (λ (x : LocatedMember). x.located) e)
