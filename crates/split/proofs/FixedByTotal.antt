-- Two splits within the caps that go in turn and have the same total are the same. Where each had more than the other somewhere, of
-- those two places the one that comes first would not have its cap in one of them; so one has nowhere more, and the totals tell
-- that it has nowhere less. Assumes nothing.
use Prim.Native.Nat.{ℕ, zero, suc, ◌≤◌, ◌<◌}
use mathlib.Core.List.{List, [], ◌∷◌}
use mathlib.Core.Logic.{◌⊎◌, inl, inr, ⊎_elim}
use mathlib.Core.Path.{◌≡◌, refl, sym, ap}
use native.Mathlib.Decide.{dec_lt}
use native.Mathlib.Omega.{arith}
use lib.ListN.{length, get_or}
use Rattle.split.specs.declared.limits.Benefit.{Benefit}
use Rattle.split.specs.Limits.{no_benefit, total, WithinCaps}
use Rattle.split.specs.Claims.{ComesBefore, price_in, InTurn}

-- a lump by its place
capped_at : (bs : List Benefit) (xs : List ℕ) → WithinCaps bs xs → (j : ℕ) → j < length bs → get_or xs j 0 ≤ (get_or bs j no_benefit).cap.0
capped_at [] xs c j place = absurd (omega arith)
capped_at (b ∷ bs) [] c j place = absurd c
capped_at (b ∷ bs) (x ∷ xs) c zero place = c.0
capped_at (b ∷ bs) (x ∷ xs) c (suc j) place = capped_at bs xs c.1 j (omega arith)

-- a place at which one split has more than another
record MoreAt (bs : List Benefit) (xs ys : List ℕ) : Type 0 where
  place : ℕ
  inside : place < length bs
  above : get_or ys place 0 < get_or xs place 0

-- or it has nowhere more
abbrev UpTo : List ℕ → List ℕ → Type 0
UpTo [] [] = Unit
UpTo [] (y ∷ ys) = ⊥
UpTo (x ∷ xs) [] = ⊥
UpTo (x ∷ xs) (y ∷ ys) = (x ≤ y) × UpTo xs ys

compared : (bs : List Benefit) (xs ys : List ℕ) → WithinCaps bs xs → WithinCaps bs ys → MoreAt bs xs ys ⊎ UpTo xs ys
compared [] [] [] c d = inr tt
compared [] [] (y ∷ ys) c d = absurd d
compared [] (x ∷ xs) ys c d = absurd c
compared (b ∷ bs) [] ys c d = absurd c
compared (b ∷ bs) (x ∷ xs) [] c d = absurd d
compared (b ∷ bs) (x ∷ xs) (y ∷ ys) c d =
    elim (dec_lt y x) [
      | yes more ↦ inl (record { place = 0; inside = omega arith; above = more })
      | no less ↦
          ⊎_elim (λ m. inl (record { place = suc m.place; inside = omega (arith, m.inside); above = m.above }))
          (λ rest. inr (omega arith, rest)) (compared bs xs ys c.1 d.1)
    ]

-- of two places one comes first
one_first : (p q i j : ℕ) → (i ≡ j → ⊥) → ComesBefore p q i j ⊎ ComesBefore q p j i
one_first p q i j apart =
    elim (dec_lt p q) [
      | yes cheaper ↦ inl (inl cheaper)
      | no h ↦
          elim (dec_lt q p) [
            | yes dearer ↦ inr (inl dearer)
            | no k ↦
                elim (dec_lt i j) [
                  | yes earlier ↦ inl (inr (omega arith, earlier))
                  | no l ↦
                      elim (dec_lt j i) [
                        | yes later ↦ inr (inr (omega arith, later))
                        | no m ↦ absurd (apart (omega arith))
                      ]
                ]
          ]
    ]

module _ (bs : List Benefit) (xs ys : List ℕ) (c : WithinCaps bs xs) (d : WithinCaps bs ys) (t : InTurn bs xs) (u : InTurn bs ys) where
  -- not each more than the other
  crossed : MoreAt bs xs ys → MoreAt bs ys xs → ⊥
  crossed m n =
      ⊎_elim
      (λ first.
      let full = u m.place n.place m.inside n.inside first (omega (arith, n.above)) in
      omega (arith, m.above, full, capped_at bs xs c m.place m.inside))
      (λ first.
      let full = t n.place m.place n.inside m.inside first (omega (arith, m.above)) in
      omega (arith, n.above, full, capped_at bs ys d n.place n.inside))
      (one_first (price_in bs m.place) (price_in bs n.place) m.place n.place apart)
    where
      apart : m.place ≡ n.place → ⊥
      apart e = omega (arith, m.above, n.above, ap (λ (k : ℕ). get_or xs k 0) e, ap (λ (k : ℕ). get_or ys k 0) e)

-- a split that has nowhere more and no less in total is the same
total_up_to : (xs ys : List ℕ) → UpTo xs ys → total xs ≤ total ys
total_up_to [] [] u = omega arith
total_up_to [] (y ∷ ys) u = absurd u
total_up_to (x ∷ xs) [] u = absurd u
total_up_to (x ∷ xs) (y ∷ ys) u = omega (arith, u.0, total_up_to xs ys u.1)

same_up_to : (xs ys : List ℕ) → UpTo xs ys → total ys ≤ total xs → xs ≡ ys
same_up_to [] [] u e = refl
same_up_to [] (y ∷ ys) u e = absurd u
same_up_to (x ∷ xs) [] u e = absurd u
same_up_to (x ∷ xs) (y ∷ ys) u e =
    let rest = total_up_to xs ys u.1 in
    let here : x ≡ y = omega (arith, u.0) in
    let behind = same_up_to xs ys u.1 (omega (arith, u.0)) in
    λ i. here i ∷ behind i

pub in_turn_same : (bs : List Benefit) (xs ys : List ℕ) → WithinCaps bs xs → WithinCaps bs ys → InTurn bs xs → InTurn bs ys
    → total xs ≡ total ys → xs ≡ ys
in_turn_same bs xs ys c d t u same =
    ⊎_elim
    (λ m.
    ⊎_elim (λ n. absurd (crossed bs xs ys c d t u m n)) (λ below. sym (same_up_to ys xs below (omega arith)))
    (compared bs ys xs d c))
    (λ below. same_up_to xs ys below (omega arith)) (compared bs xs ys c d)
