-- How the code arranges two lists of sound lines of which the second does not begin before the first. Counted from the first's first
-- number, the first has the numbers below its count, and the second those from where it begins. So there is a gap where it begins
-- behind the first's end; and else 16 says just that the lines of both are alike, and the result is the first with those of the
-- second behind it. Assumes nothing.
use Prim.Native.Nat.{ℕ, ◌+◌, ◌-◌, ◌≤◌, ◌<◌, min, max}
use mathlib.Core.Bool.{true, false, true≢false}
use mathlib.Core.List.{List, [], ◌∷◌, ◌++◌}
use mathlib.Core.Path.{◌≡◌, refl, sym, ◌∙◌, ap}
use native.Mathlib.Decide.{dec_lt}
use native.Mathlib.Omega.{arith}
use lib.ListN.{length, get_or, take, drop, length-append, length-take, length-drop, take-append-drop, get_or-append}
use lib.Seq.{get_or-take, get_or-drop, get_or-append-add, ext_get_or}
use borrow.Author.Tests.{ne_eqb}
use Rattle.register.specs.Line.{number_in}
use Rattle.register.specs.Layout.{bytes_of}
use Rattle.register.specs.Check.{number_after}
use Rattle.register.specs.Scan.{SoundLines}
use Rattle.joining.specs.Join.{holds, line_of, first_number, lower_first, higher_next, joined_lines, not_joinable}
use Rattle.joining.specs.Parts.{lines_before}
use Rattle.joining.proofs.JoinLaws.{spanned, joined_count, joined_at, line_first, line_second, lacking, alike, no_fault, faultless_each, each_faultless, some_faulty}
use Rattle.joining.proofs.Numbers.{after_rising, first_positive, number_by_place, line_there, none_below, none_above}
use Rattle.joining.proofs.Texts.{bytes_append}

-- the bytes of lines one after the other
bytes_length : (ls ms : List (List ℕ)) → length (bytes_of (ls ++ ms)) ≡ length (bytes_of ls) + length (bytes_of ms)
bytes_length ls ms = ap length (bytes_append ls ms) ∙ length-append (bytes_of ls) (bytes_of ms)

-- where the two stand: the first begins with the lower first, the second so many numbers behind it, and the numbers go to the
-- farther end
record Placed (low high : List (List ℕ)) : Type 0 where
  begins : 0 < length low → number_in (get_or low 0 []) ≡ lower_first low high
  begins₂ : 0 < length high → number_in (get_or high 0 []) ≡ lower_first low high + lines_before low high
  ends : spanned low high ≡ max (length low) (lines_before low high + length high)

placed : (low high : List (List ℕ)) → SoundLines low → SoundLines high → first_number low ≤ first_number high → Placed low high
unfolding lower_first higher_next lines_before number_after
placed [] [] sound sound₂ order = record {
  begins = λ h. absurd (omega arith);
  begins₂ = λ h. absurd (omega arith);
  ends = refl;
}
placed [] (h ∷ hs) sound sound₂ order =
    let next = after_rising (h ∷ hs) 0 (number_in h) (number_by_place (h ∷ hs) sound₂ (number_in h) (λ i. refl)) (omega arith) in
    record {
      begins = λ i. absurd (omega arith);
      begins₂ = λ i. omega arith;
      ends = omega (arith, next);
    }
placed (l ∷ ls) [] sound sound₂ order = absurd (omega (arith, first_positive (l ∷ ls) sound (omega arith)))
placed (l ∷ ls) (h ∷ hs) sound sound₂ order =
    let some = first_positive (l ∷ ls) sound (omega arith) in
    let next = after_rising (l ∷ ls) 0 (number_in l) (number_by_place (l ∷ ls) sound (number_in l) (λ i. refl)) (omega arith) in
    let next₂ = after_rising (h ∷ hs) 0 (number_in h) (number_by_place (h ∷ hs) sound₂ (number_in h) (λ i. refl)) (omega arith) in
    let one = ne_eqb (number_in l) 0 (omega arith) in
    let other = ne_eqb (number_in h) 0 (omega arith) in
    record {
      begins = λ i. simp (one, other) (omega arith);
      begins₂ = λ i. simp (one, other) (omega arith);
      ends = simp (one, other) (omega arith);
    }

module _ (low high : List (List ℕ)) (sound : SoundLines low) (sound₂ : SoundLines high) (order : first_number low ≤ first_number high) where
  abbrev before : ℕ
  before = lines_before low high

  there : Placed low high
  there = placed low high sound sound₂ order

  -- the number at a place counted from the lower first: in the first, and in the second
  module _ (k : ℕ) where
    abbrev number : ℕ
    number = lower_first low high + k

    low_has : k < length low → (holds low number ≡ true) × (line_of low number ≡ get_or low k [])
    low_has h =
        let e : number - lower_first low high ≡ k = omega arith in
        let t = line_there low sound (lower_first low high) there.begins number (omega arith) (omega arith) in
        (t.0, t.1 ∙ ap (λ (n : ℕ). get_or low n []) e)

    low_lacks : length low ≤ k → holds low number ≡ false
    low_lacks h = none_above low sound (lower_first low high) there.begins number (omega arith)

    high_has : before ≤ k → k < before + length high → (holds high number ≡ true) × (line_of high number ≡ get_or high (k - before) [])
    high_has h i =
        let e : number - (lower_first low high + before) ≡ k - before = omega arith in
        let t = line_there high sound₂ (lower_first low high + before) there.begins₂ number (omega arith) (omega arith) in
        (t.0, t.1 ∙ ap (λ (n : ℕ). get_or high n []) e)

    high_below : k < before → holds high number ≡ false
    high_below h = none_below high sound₂ (lower_first low high + before) there.begins₂ number (omega arith)

    high_above : before + length high ≤ k → holds high number ≡ false
    high_above h = none_above high sound₂ (lower_first low high + before) there.begins₂ number (omega arith)

    -- a number of both is at a place of both
    in_both : holds low number ≡ true → holds high number ≡ true → (k < length low) × (before ≤ k) × (k < before + length high)
    in_both a b = (
      elim (dec_lt k (length low)) [ yes h ↦ h | no h ↦ absurd (true≢false (sym a ∙ low_lacks (omega arith))) ],
      elim (dec_lt k before) [ yes h ↦ absurd (true≢false (sym b ∙ high_below h)) | no h ↦ omega arith ],
      elim (dec_lt k (before + length high)) [ yes h ↦ h | no h ↦ absurd (true≢false (sym b ∙ high_above (omega arith))) ],
    )

    -- one that the first lacks is behind it
    not_in_low : holds low number ≡ false → length low ≤ k
    not_in_low a = elim (dec_lt k (length low)) [ yes h ↦ absurd (true≢false (sym (low_has h).0 ∙ a)) | no h ↦ omega arith ]

  -- a gap: the number behind the first is in neither
  pub gap : length low < before → not_joinable low high ≡ true
  gap h =
      some_faulty low high (length low) (omega (arith, there.ends))
      (lacking low high _ (low_lacks (length low) (omega arith)) (high_below (length low) h))

  -- no gap: the lines that both have are so many, from where the second begins
  module _ (meet : before ≤ length low) where
    abbrev common : ℕ
    common = min (length low - before) (length high)

    -- where 16 does not hold, they are alike
    pub alike_lines : not_joinable low high ≡ false → take common (drop before low) ≡ take common high
    alike_lines none =
        ext_get_or [] (take common (drop before low)) (take common high) (simp (length-take, length-drop) (omega arith))
        (λ j h.
        let i : j < common = omega (arith, simp (length-take, length-drop) at h) in
        let back : before + j - before ≡ j = omega arith in
        let a = low_has (before + j) (omega arith) in
        let b = high_has (before + j) (omega arith) (omega arith) in
        get_or-take common (drop before low) j [] i ∙ get_or-drop before low j [] ∙ sym a.1
        ∙ alike low high _ (faultless_each low high none (before + j) (omega (arith, there.ends))) a.0 b.0 ∙ b.1
        ∙ ap (λ (n : ℕ). get_or high n []) back ∙ sym (get_or-take common high j [] i))

    module _ (same : take common (drop before low) ≡ take common high) where
      same_at : (k : ℕ) → before ≤ k → k < length low → k < before + length high → get_or low k [] ≡ get_or high (k - before) []
      same_at k a b c =
          let i : k - before < common = omega arith in
          let e : before + (k - before) ≡ k = omega arith in
          ap (λ (n : ℕ). get_or low n []) (sym e) ∙ sym (get_or-drop before low (k - before) [])
          ∙ sym (get_or-take common (drop before low) (k - before) [] i) ∙ ap (λ (ls : List (List ℕ)). get_or ls (k - before) []) same
          ∙ get_or-take common high (k - before) [] i

      -- where they are alike, 16 does not hold
      pub alike_joins : not_joinable low high ≡ false
      alike_joins =
          each_faultless low high
          (λ k h.
          no_fault low high _
          (λ a. (high_has k (omega (arith, not_in_low k a)) (omega (arith, not_in_low k a, there.ends))).0)
          (λ a b.
          let p = in_both k a b in
          (low_has k p.0).1 ∙ same_at k p.1 p.0 p.2 ∙ sym (high_has k p.1 p.2).1))

      -- and the result is the first and behind it the rest of the second
      pub arranged : joined_lines low high ≡ low ++ drop common high
      arranged =
          ext_get_or [] (joined_lines low high) (low ++ drop common high)
          (simp (length-append, length-drop) (omega (arith, joined_count low high, there.ends)))
          (λ k h.
          let i : k < spanned low high = omega (arith, joined_count low high) in
          joined_at low high k i
          ∙ elim (dec_lt k (length low)) [
            | yes l ↦
                line_first low high _ (low_has k l).0 ∙ (low_has k l).1
                ∙ sym (get_or-append low (drop common high) [] k l)
            | no l ↦
                let e : length low + (k - length low) ≡ k = omega arith in
                let f : common + (k - length low) ≡ k - before = omega (arith, there.ends) in
                line_second low high _ (low_lacks k (omega arith)) ∙ (high_has k (omega arith) (omega (arith, there.ends))).1
                ∙ ap (λ (n : ℕ). get_or high n []) (sym f) ∙ sym (get_or-drop common high (k - length low) [])
                ∙ sym (get_or-append-add low (drop common high) (k - length low) [])
                ∙ ap (λ (n : ℕ). get_or (low ++ drop common high) n []) e
          ])

  -- so it is no longer than the two together
  pub no_longer : not_joinable low high ≡ false → length (bytes_of (joined_lines low high)) ≤ length (bytes_of low) + length (bytes_of high)
  no_longer none =
      elim (dec_lt (length low) before) [
        | yes h ↦ absurd (true≢false (sym (gap h) ∙ none))
        | no h ↦
            let meet : before ≤ length low = omega arith in
            let n = common meet in
            omega (
              arith,
              ap (λ (ls : List (List ℕ)). length (bytes_of ls)) (arranged meet (alike_lines meet none)),
              bytes_length low (drop n high),
              bytes_length (take n high) (drop n high),
              ap (λ (ls : List (List ℕ)). length (bytes_of ls)) (take-append-drop n high),
            )
      ]
