-- Laws of the definitions of joining: equal characters, told pair by pair, and by a flag and the rest from a place on; so many
-- numbers from a given one on; the result's lines by their places; what 16 says of each number; what joining answers and leaves, by its
-- refusal; and what no refusal says. By induction on the characters and on the numbers. Assumes nothing.
use Prim.Native.Nat.{ℕ, zero, suc, ◌+◌, ◌-◌, ◌≤◌, ◌<◌}
use mathlib.Core.Bool.{Bool, true, false, cond, not, ◌&&◌, ◌||◌, or-true, or-false, or_assoc, false≢true}
use mathlib.Core.List.{List, [], ◌∷◌}
use mathlib.Core.Path.{◌≡◌, refl, sym, ◌∙◌, ap}
use native.Mathlib.Numerals.{add-one}
use native.Mathlib.Omega.{arith}
use lib.Dec.{eqb}
use lib.ListN.{length, get_or, drop, drop_of_length-le, length-map}
use lib.Seq.{drop-cons}
use lib.Pointwise.{pointwise, bytes_decides}
use borrow.Author.Tests.{ltb-true, ltb-false, lt-ltb, le-ltb, eqb-true, ne_eqb, not-false}
use Rattle.calendar.proofs.TestsLaws.{or_left, or_right, not_true_false, by_test, by_zero, any_none, none_any, some_any}
use Rattle.std.proofs.lemmas.List.{get_or-map}
use Rattle.register.specs.Layout.{Register, used_lines, bytes_of}
use Rattle.register.specs.Check.{check_of}
use Rattle.register.specs.Steps.{Step}
use Rattle.joining.specs.Answers.{Written}
use Rattle.joining.specs.Join.{holds, line_of, lower_first, higher_next, numbers_from, joined_numbers, joined_line, joined_lines, same_characters, has_unlike, in_neither, not_joinable, is_too_short, not_valid, bad_register, cannot_join, no_room, join_refusal, joined_text, written_step, refused_step, join_step}
use Rattle.joining.specs.Parts.{write_step}

-- characters are equal where the lists compared pair by pair are, and so exactly where the lists are
pub compared : (xs ys : List ℕ) → pointwise eqb xs ys ≡ same_characters xs ys
unfolding same_characters
compared [] [] = refl
compared [] (y ∷ ys) = refl
compared (x ∷ xs) [] = refl
compared (x ∷ xs) (y ∷ ys) = ap (λ (b : Bool). eqb x y && b) (compared xs ys)

pub same_equal : (xs ys : List ℕ) → same_characters xs ys ≡ true → xs ≡ ys
same_equal xs ys e = (bytes_decides xs ys).0 (compared xs ys ∙ e)

pub equal_same : (xs ys : List ℕ) → xs ≡ ys → same_characters xs ys ≡ true
equal_same xs ys e = sym (compared xs ys) ∙ (bytes_decides xs ys).1 e

pub same_swapped : (xs ys : List ℕ) → same_characters xs ys ≡ same_characters ys xs
same_swapped xs ys = go (same_characters xs ys) refl
  where
    go : (b : Bool) → same_characters xs ys ≡ b → b ≡ same_characters ys xs
    go true e = sym (equal_same ys xs (sym (same_equal xs ys e)))
    go false e =
        sym (not_true_false (same_characters ys xs) (λ t. false≢true (sym e ∙ equal_same xs ys (sym (same_equal ys xs t)))))

-- a flag and the rest from a place on answer for the whole: with one more character, and past the end the flag alone
module _ (xs ys : List ℕ) (i : ℕ) (whole flag : Bool) (rest : whole ≡ (flag || not (same_characters (drop i xs) (drop i ys)))) where
  next : i < length xs → i < length ys
      → not (same_characters (drop i xs) (drop i ys))
      ≡ (not (eqb (get_or xs i 0) (get_or ys i 0)) || not (same_characters (drop (i + 1) xs) (drop (i + 1) ys)))
  unfolding same_characters
  next h g = rw (add-one, drop-cons xs i 0 h, drop-cons ys i 0 g) (go (eqb (get_or xs i 0) (get_or ys i 0)) _)
    where
      go : (a b : Bool) → not (a && b) ≡ (not a || not b)
      go true b = refl
      go false b = refl

  pub unlike_more : i < length xs → i < length ys
      → whole ≡ ((flag || not (eqb (get_or xs i 0) (get_or ys i 0))) || not (same_characters (drop (i + 1) xs) (drop (i + 1) ys)))
  unlike_more h g = rest ∙ ap (λ (b : Bool). flag || b) (next h g) ∙ sym (or_assoc flag _ _)

  pub unlike_all : length xs ≤ i → length ys ≤ i → flag ≡ whole
  unfolding same_characters
  unlike_all h g = sym (rest ∙ rw (drop_of_length-le xs h, drop_of_length-le ys g) (or-false flag))

-- parts of two lengths are not equal
pub unlike_lengths : (xs ys : List ℕ) → ¬ (length xs ≡ length ys) → same_characters xs ys ≡ false
unlike_lengths xs ys h = not_true_false (same_characters xs ys) (λ t. h (ap length (same_equal xs ys t)))

-- so many numbers are made as are asked for, each by its place
pub numbers_count : (number n : ℕ) → length (numbers_from number n) ≡ n
numbers_count number zero = refl
numbers_count number (suc n) = ap suc (numbers_count (suc number) n)

pub numbers_at : (number n k : ℕ) → k < n → get_or (numbers_from number n) k 0 ≡ number + k
numbers_at number zero k h = absurd (omega arith)
numbers_at number (suc n) zero h = omega arith
numbers_at number (suc n) (suc k) h = omega (arith, numbers_at (suc number) n k (omega arith))

module _ (first second : List (List ℕ)) where
  -- how many numbers there are from the lower first to the higher last
  abbrev pub spanned : ℕ
  spanned = higher_next first second - lower_first first second

  -- what 16 asks of a number
  abbrev faulty : ℕ → Bool
  faulty number = has_unlike first second number || in_neither first second number

  -- the result's lines, by their places
  pub joined_count : length (joined_lines first second) ≡ spanned
  unfolding joined_lines joined_numbers
  joined_count = length-map (numbers_from (lower_first first second) spanned) (joined_line first second) ∙ numbers_count (lower_first first second) spanned

  pub joined_at : (k : ℕ) → k < spanned → get_or (joined_lines first second) k [] ≡ joined_line first second (lower_first first second + k)
  unfolding joined_lines joined_numbers
  joined_at k h =
      get_or-map (joined_line first second) (numbers_from (lower_first first second) spanned) k 0 [] (omega (arith, numbers_count (lower_first first second) spanned))
      ∙ ap (joined_line first second) (numbers_at (lower_first first second) spanned k h)

  module _ (number : ℕ) where
    -- each is a line of the first, or else of the second
    pub line_first : holds first number ≡ true → joined_line first second number ≡ line_of first number
    unfolding joined_line
    line_first e = simp e

    pub line_second : holds first number ≡ false → joined_line first second number ≡ line_of second number
    unfolding joined_line
    line_second e = simp e

    -- what 16 finds or does not find in a number
    pub lacking : holds first number ≡ false → holds second number ≡ false → faulty number ≡ true
    unfolding in_neither
    lacking a b = simp (a, b, or-true)

    pub in_one : faulty number ≡ false → holds first number ≡ false → holds second number ≡ true
    unfolding in_neither
    in_one fine a = not-false _ (simp a at (or_right (has_unlike first second number) _ fine))

    pub alike : faulty number ≡ false → holds first number ≡ true → holds second number ≡ true
        → line_of first number ≡ line_of second number
    unfolding has_unlike
    alike fine a b =
        same_equal _ _ (not-false _ (simp (a, b) at (or_left (has_unlike first second number) _ fine)))

    pub differing : holds first number ≡ true → holds second number ≡ true
        → (line_of first number ≡ line_of second number → ⊥) → faulty number ≡ true
    unfolding has_unlike
    differing a b other =
        simp (a, b, not_true_false (same_characters (line_of first number) (line_of second number)) (λ t. other (same_equal _ _ t)))

    pub no_fault : (holds first number ≡ false → holds second number ≡ true)
        → (holds first number ≡ true → holds second number ≡ true → line_of first number ≡ line_of second number)
        → faulty number ≡ false
    unfolding has_unlike in_neither
    no_fault held same = go (holds first number) refl (holds second number) refl
      where
        go : (a : Bool) → holds first number ≡ a → (b : Bool) → holds second number ≡ b
            → (((a && b) && not (same_characters (line_of first number) (line_of second number))) || not (a || b)) ≡ false
        go true e true f = simp (equal_same _ _ (same e f))
        go true e false f = refl
        go false e true f = refl
        go false e false f = absurd (false≢true (sym f ∙ held e))

  -- what 16 says of each number, and of all
  pub faultless_each : not_joinable first second ≡ false → (k : ℕ) → k < spanned → faulty (lower_first first second + k) ≡ false
  unfolding not_joinable joined_numbers
  faultless_each none k h =
      rw (numbers_at (lower_first first second) spanned k h) at
      (any_none faulty (numbers_from (lower_first first second) spanned) 0 none k (omega (arith, numbers_count (lower_first first second) spanned)))

  pub each_faultless : ((k : ℕ) → k < spanned → faulty (lower_first first second + k) ≡ false) → not_joinable first second ≡ false
  unfolding not_joinable joined_numbers
  each_faultless fine =
      none_any faulty (numbers_from (lower_first first second) spanned) 0
      (λ k h.
      let i : k < spanned = omega (arith, numbers_count (lower_first first second) spanned) in
      rw (numbers_at (lower_first first second) spanned k i) (fine k i))

  pub some_faulty : (k : ℕ) → k < spanned → faulty (lower_first first second + k) ≡ true → not_joinable first second ≡ true
  unfolding not_joinable joined_numbers
  some_faulty k h bad =
      some_any faulty (numbers_from (lower_first first second) spanned) k 0 (omega (arith, numbers_count (lower_first first second) spanned))
      (rw (numbers_at (lower_first first second) spanned k h) bad)

-- what joining answers and leaves, by its refusal
module _ (first second : Register) (target : List ℕ) where
  abbrev ls : List (List ℕ)
  ls = used_lines first

  abbrev ms : List (List ℕ)
  ms = used_lines second

  pub step_refused : (n : ℕ) → join_refusal first second target ≡ n → (n ≡ 0 → ⊥) → join_step first second target ≡ refused_step n target
  unfolding join_step
  step_refused n e some = simp (e, ne_eqb n 0 some)

  pub first_unsound : ((check_of first).refusal ≡ 0 → ⊥) → join_step first second target ≡ refused_step bad_register target
  unfolding join_refusal
  first_unsound bad = step_refused bad_register (simp (ne_eqb (check_of first).refusal 0 bad)) (λ e. omega arith)

  module _ (good : (check_of first).refusal ≡ 0) where
    pub second_unsound : ((check_of second).refusal ≡ 0 → ⊥) → join_step first second target ≡ refused_step bad_register target
    unfolding join_refusal
    second_unsound bad =
        step_refused bad_register (simp (good, ne_eqb (check_of second).refusal 0 bad)) (λ e. omega arith)

    module _ (good₂ : (check_of second).refusal ≡ 0) where
      pub apart : not_joinable ls ms ≡ true → join_step first second target ≡ refused_step cannot_join target
      unfolding join_refusal
      apart bad = step_refused cannot_join (simp (good, good₂, bad)) (λ e. omega arith)

      module _ (fine : not_joinable ls ms ≡ false) where
        pub too_short : length target < length (bytes_of (joined_lines ls ms)) → join_step first second target ≡ refused_step no_room target
        unfolding join_refusal
        too_short h =
            step_refused no_room (simp (good, good₂, fine, lt-ltb (length target) (length (bytes_of (joined_lines ls ms))) h))
            (λ e. omega arith)

        pub granted : length (bytes_of (joined_lines ls ms)) ≤ length target
            → join_step first second target ≡ written_step (bytes_of (joined_lines ls ms)) target
        unfolding join_refusal joined_text join_step
        granted h = simp (good, good₂, fine, le-ltb (length target) (length (bytes_of (joined_lines ls ms))) h)

        pub written : join_step first second target ≡ write_step (bytes_of (joined_lines ls ms)) target
        unfolding write_step
        written =
            by_test (λ (x : Step Written (List ℕ)). join_step first second target ≡ x) (is_too_short (length target) (joined_lines ls ms)) _ _
            (λ e. too_short (ltb-true _ _ e)) (λ e. granted (ltb-false _ _ e))

  -- the refusal answered is the one defined
  pub answered : (join_step first second target).answer.refusal ≡ join_refusal first second target
  unfolding join_step
  answered =
      by_zero (λ (x : Step Written (List ℕ)). x.answer.refusal ≡ join_refusal first second target) (join_refusal first second target) _ _
      (λ e. sym e) (λ e. refl)

  -- what no refusal says
  pub record Joins : Type 0 where
    pub first_sound : (check_of first).refusal ≡ 0
    pub second_sound : (check_of second).refusal ≡ 0
    pub agree : not_joinable ls ms ≡ false
    pub room : length (bytes_of (joined_lines ls ms)) ≤ length target

  joins_by : join_refusal first second target ≡ 0 → Joins
  unfolding join_refusal
  joins_by = go (not_valid first) refl (not_valid second) refl (not_joinable ls ms) refl (is_too_short (length target) (joined_lines ls ms)) refl
    where
      go : (a : Bool) → not_valid first ≡ a → (b : Bool) → not_valid second ≡ b → (n : Bool) → not_joinable ls ms ≡ n
          → (t : Bool) → is_too_short (length target) (joined_lines ls ms) ≡ t
          → ◌≡◌ {A = ℕ} (cond a bad_register (cond b bad_register (cond n cannot_join (cond t no_room 0)))) 0 → Joins
      go true e b f n g t h z = absurd (omega arith)
      go false e true f n g t h z = absurd (omega arith)
      go false e false f true g t h z = absurd (omega arith)
      go false e false f false g true h z = absurd (omega arith)
      go false e false f false g false h z = record {
        first_sound = eqb-true _ 0 (not-false _ e);
        second_sound = eqb-true _ 0 (not-false _ f);
        agree = g;
        room = ltb-false _ _ h;
      }

  pub joins : (join_step first second target).answer.refusal ≡ 0 → Joins
  joins none = joins_by (sym answered ∙ none)
