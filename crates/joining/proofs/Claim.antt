-- What is claimed of two registers joined without a refusal: each line of the result is a line of one of the two that has the
-- number of its place, so that the lines are whole, check sound and are found by their numbers. Assumes nothing.
use Prim.Native.Nat.{ℕ, ◌+◌, ◌-◌, ◌≤◌, ◌<◌}
use mathlib.Core.Bool.{Bool, true, false, ◌||◌}
use mathlib.Core.List.{List, [], ◌++◌}
use mathlib.Core.Path.{◌≡◌, refl, sym, ◌∙◌, ap}
use mathlib.Core.Logic.{◌⊎◌, inl, inr, ⊎_elim}
use native.Mathlib.Decide.{dec_lt}
use native.Mathlib.Nat.{zero-add}
use native.Mathlib.Omega.{arith}
use lib.ListN.{length, get_or, drop}
use lib.Seq.{drop_at}
use borrow.Author.Tests.{eq-eqb, ne_eqb}
use Rattle.register.specs.Answers.{Checked}
use Rattle.register.specs.Line.{number_in}
use Rattle.register.specs.Layout.{Register, lent, line_layout, line_length, used_lines, bytes_of}
use Rattle.register.specs.Check.{check_of, check_lines}
use Rattle.register.specs.Find.{has_number, find_refusal, find_line}
use Rattle.register.specs.Ledger.{Ledger}
use Rattle.register.specs.Steps.{Step}
use Rattle.register.proofs.CheckLaws.{Good, any_right}
use Rattle.register.proofs.FindLaws.{found_at}
use Rattle.register.proofs.LedgerLaws.{Held}
use Rattle.register.proofs.Shown.{shown, shown_lines, shown_check}
use Rattle.joining.specs.Answers.{Written}
use Rattle.joining.specs.Join.{holds, line_of, lower_first, higher_next, joined_line, joined_lines, has_unlike, in_neither, joined}
use Rattle.joining.specs.Claims.{LineInOne, refusal_given, JoinClaim}
use Rattle.joining.proofs.JoinLaws.{spanned, joined_count, joined_at, line_first, line_second, in_one, alike, faultless_each, granted, Joins, joins}
use Rattle.joining.proofs.Numbers.{rising_sound}
use Rattle.joining.proofs.Own.{each_whole, OwnLine, own_line, own_positive, own_found, one_bounds}

module _ (first second : Register) (target : List ℕ) (none : refusal_given first second target ≡ 0) where
  abbrev ls : List (List ℕ)
  ls = used_lines first

  abbrev ms : List (List ℕ)
  ms = used_lines second

  abbrev js : List (List ℕ)
  js = joined_lines ls ms

  abbrev result : Register
  result = joined first second target

  fine : Joins first second target
  fine = joins first second target none

  -- each line of the result is a line of one of the two, with the number of its place
  module _ (k : ℕ) (h : k < spanned ls ms) where
    either : OwnLine first (lower_first ls ms + k) (get_or js k []) ⊎ OwnLine second (lower_first ls ms + k) (get_or js k [])
    either = go (holds ls (lower_first ls ms + k)) refl
      where
        go : (b : Bool) → holds ls (lower_first ls ms + k) ≡ b
            → OwnLine first (lower_first ls ms + k) (get_or js k []) ⊎ OwnLine second (lower_first ls ms + k) (get_or js k [])
        go true e =
            inl (rw (joined_at ls ms k h, line_first ls ms (lower_first ls ms + k) e) (own_line first fine.first_sound (lower_first ls ms + k) e))
        go false e =
            let f = in_one ls ms (lower_first ls ms + k) (faultless_each ls ms fine.agree k h) e in
            inr (rw (joined_at ls ms k h, line_second ls ms (lower_first ls ms + k) e) (own_line second fine.second_sound (lower_first ls ms + k) f))

    line_number : number_in (get_or js k []) ≡ lower_first ls ms + k
    line_number = ⊎_elim (λ o. o.numbered) (λ o. o.numbered) either

    line_good : Good line_layout (get_or js k []) line_length
    line_good = ⊎_elim (λ o. o.good) (λ o. o.good) either

    line_whole : length (get_or js k []) ≡ line_length
    line_whole = ⊎_elim (λ o. o.whole) (λ o. o.whole) either

    line_among : LineInOne first second (get_or js k [])
    line_among = ⊎_elim (λ o. inl o.among) (λ o. inr o.among) either

  within : (k : ℕ) → k < length js → k < spanned ls ms
  within k h = omega (arith, joined_count ls ms)

  -- a number from the lower first to the higher last is at least 1
  lowest_positive : 0 < spanned ls ms → 0 < lower_first ls ms
  lowest_positive h =
      ⊎_elim (λ o. omega (arith, o.numbered, own_positive first fine.first_sound _ o.among))
      (λ o. omega (arith, o.numbered, own_positive second fine.second_sound _ o.among)) (either 0 h)

  lines_check : (check_lines 0 0 js).refusal ≡ 0
  lines_check =
      elim (dec_lt 0 (spanned ls ms)) [
        | yes h ↦
            rising_sound js 0 (lower_first ls ms) 0 (lowest_positive h) (any_right (lower_first ls ms) (lowest_positive h))
            (λ k i. line_good k (within k i)) (λ k i. line_number k (within k i))
        | no h ↦
            rising_sound js 0 1 0 (omega arith) (any_right 1 (omega arith)) (λ k i. absurd (omega (arith, within k i)))
            (λ k i. absurd (omega (arith, within k i)))
      ]

  -- so the buffer shows a ledger of these lines
  abbrev ledger : Ledger
  ledger = record { lines = js; granted = [] }

  held : Held (length target) ledger
  held = record {
    whole = each_whole line_layout js (λ k h. line_whole k (within k h));
    room = fine.room;
    sound = lines_check;
  }

  result-shown : result ≡ shown target ledger
  result-shown =
      ap (λ (x : Step Written (List ℕ)). lent x.state x.answer.used)
      (granted first second target fine.first_sound fine.second_sound fine.agree fine.room)
      ∙ ap (λ (n : ℕ). lent (bytes_of js ++ drop n target) (length (bytes_of js))) (zero-add (length (bytes_of js)))

  result_size : result.used ≡ length (bytes_of js)
  result_size = ap (λ (r : Register). r.used) result-shown

  result_lines : used_lines result ≡ js
  result_lines = ap used_lines result-shown ∙ shown_lines target ledger held

  result_sound : (check_of result).refusal ≡ 0
  result_sound =
      ap (λ (r : Register). (check_of r).refusal) result-shown ∙ ap (λ (k : Checked). k.refusal) (shown_check target ledger held)
      ∙ lines_check

  result_count : length (used_lines result) ≡ spanned ls ms
  result_count = ap length result_lines ∙ joined_count ls ms

  at : (k : ℕ) → get_or (used_lines result) k [] ≡ get_or js k []
  at k = ap (λ (x : List (List ℕ)). get_or x k []) result_lines

  result_number : (k : ℕ) → k < spanned ls ms → number_in (get_or (used_lines result) k []) ≡ lower_first ls ms + k
  result_number k h = ap number_in (at k) ∙ line_number k h

  -- a number between them is found, at its place
  found : (number : ℕ) → lower_first ls ms ≤ number → number < higher_next ls ms
      → (find_refusal (has_number number) result ≡ 0) × (find_line (has_number number) result ≡ joined_line ls ms number)
  found number low high =
      let k = number - lower_first ls ms in
      let back : lower_first ls ms + k ≡ number = omega arith in
      let f =
      found_at line_layout (has_number number) result result_sound k (omega (arith, result_count))
      (eq-eqb _ number (result_number k (omega arith) ∙ back))
      (λ j g i. ne_eqb _ number (λ e. omega (arith, result_number j (omega (arith, result_count)), e)))
      in
      (f.0, f.1 ∙ at k ∙ joined_at ls ms k (omega arith) ∙ ap (joined_line ls ms) back)

  -- the number of a line of either is between them, and the line is the result's of that number
  bounds : (l : List ℕ) → LineInOne first second l → (lower_first ls ms ≤ number_in l) × (number_in l < higher_next ls ms)
  bounds = one_bounds first second fine.first_sound fine.second_sound

  kept_line : (l : List ℕ) → LineInOne first second l → joined_line ls ms (number_in l) ≡ l
  kept_line l among =
      ⊎_elim
      (λ a.
      let o = own_found first fine.first_sound l a in
      line_first ls ms (number_in l) o.0 ∙ o.1)
      (λ a.
      let o = own_found second fine.second_sound l a in
      go o.0 (holds ls (number_in l)) refl ∙ o.1)
      among
    where
      free : (has_unlike ls ms (number_in l) || in_neither ls ms (number_in l)) ≡ false
      free =
          let b = bounds l among in
          let back : lower_first ls ms + (number_in l - lower_first ls ms) ≡ number_in l = omega arith in
          rw back at (faultless_each ls ms fine.agree (number_in l - lower_first ls ms) (omega arith))

      go : holds ms (number_in l) ≡ true → (b : Bool) → holds ls (number_in l) ≡ b
          → joined_line ls ms (number_in l) ≡ line_of ms (number_in l)
      go e true f = line_first ls ms (number_in l) f ∙ alike ls ms (number_in l) free f e
      go e false f = line_second ls ms (number_in l) f

  pub join_claim : JoinClaim first second target
  join_claim = record {
    inside = omega (arith, result_size, fine.room);
    sound = result_sound;
    every = λ number low high a b below above.
        (found number (omega (arith, bounds low a)) (omega (arith, bounds high b))).0;
    once = λ j k h i e.
        omega (arith, result_number j (omega (arith, result_count)), result_number k (omega (arith, result_count)), e);
    belongs = λ l a.
        let i = a.inside in
        let e : get_or js a.place [] ≡ l = sym (at a.place) ∙ a.there in
        rw e at (line_among a.place (omega (arith, result_count)));
    kept = λ l a. (found (number_in l) (bounds l a).0 (bounds l a).1).1 ∙ kept_line l a;
    past =
        ap (λ (r : Register). drop r.used r.bytes) result-shown ∙ drop_at (bytes_of js) (drop (length (bytes_of js)) target) _ refl
        ∙ ap (λ (r : Register). drop r.used target) (sym result-shown);
  }
