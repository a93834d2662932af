-- What remains of pensions when a split within the caps is taken, and the second instalments. A lump within its cap gives up no
-- more than its pension; a price covers three times a penny and twenty times what it gives up, so that what a split spends covers
-- three times its total and twenty times all that it gives up. Assumes nothing.
use Prim.Native.Nat.{ℕ, zero, suc, ◌+◌, ◌*◌, ◌/◌, ◌≤◌, ◌<◌}
use mathlib.Core.List.{List, [], ◌∷◌, ◌++◌}
use mathlib.Core.Path.{◌≡◌, refl}
use native.Mathlib.Nat
use native.Mathlib.Omega.{arith}
use lib.ListN.{length, get_or, replicate}
use borrow.Author.Tests.{eq-eqb, ne_eqb}
use Rattle.split.specs.declared.case.Head.{Head}
use Rattle.split.specs.declared.case.Pension.{Pension}
use Rattle.split.specs.declared.answers.Share.{Share}
use Rattle.split.specs.Case.{no_pension}
use Rattle.split.specs.Refusal.{age_of}
use Rattle.split.specs.Benefits.{worked_pension, factor_of, limited_lump, quarter_lump, benefit_of, benefits_of}
use Rattle.split.specs.Limits.{no_benefit, total, price_of, total_pension, WithinCaps, spend}
use Rattle.split.specs.Quote.{remaining_of, second_of, share_of, no_share, shares_of}
use Rattle.split.specs.Claims.{GivenUp, SecondPaid, total_remaining}
use Rattle.split.proofs.Prices.{ring, price_covers}
use Rattle.split.proofs.BenefitsLaws.{cap_quarter}
use Rattle.split.proofs.Accepted.{AcceptedPension, Accepted, accepted_rest, factor_range}

-- over plain numbers: a lump x within a quarter of P × t/b gives up no more than P
within_pension : (x p t b : ℕ) → x ≤ p * t / (4 * b) → x * b ≤ p * t
within_pension x p t b h =
    omega (arith, simp ring at (Nat.mul-le-mul_right (4 * b) h), simp ring at (Nat.div-mul-le_self (p * t) (4 * b)))

-- and at a price q that covers 3 tops and 20 bottoms, x covers 3 times itself and 20 times the g that it gives up
price_given : (x q t b g : ℕ) → 1 ≤ t → 3000000000 * t + 20000000000 * b ≤ q * t → g * t ≤ x * b
    → 3000000000 * x + 20000000000 * g ≤ x * q
price_given x q t b g positive covers given =
    Nat.le_of_mul-le-mul_right {k = t}
    (simp ring (omega (arith, simp ring at (Nat.mul-le-mul_left x covers), simp ring at given)))
    positive

-- what a lump within the cap gives up
given_up : (h : Head) (p : Pension) (x : ℕ) → AcceptedPension h p → x ≤ (benefit_of h p).cap.0 → GivenUp (benefit_of h p) (share_of h p x)
unfolding benefit_of share_of remaining_of quarter_lump
given_up h p x a capped =
    let e = factor_of (age_of h) p in
    let range = factor_range h p a in
    let below : x * e.bottom ≤ worked_pension h p * e.top =
    within_pension x (worked_pension h p) e.top e.bottom (omega (arith, cap_quarter (limited_lump p) (worked_pension h p) e)) in
    let most : x * e.bottom / e.top ≤ worked_pension h p = Nat.div-le_of_le-mul e.top (simp ring below) in
    record {
      pence = x * e.bottom / e.top;
      not_above = Nat.div-mul-le_self (x * e.bottom) e.top;
      next_above = rw Nat.add-mul (omega (arith, Nat.lt-div-mul-add {a = x * e.bottom} range.top_positive));
      at_most = most;
      remains = omega arith;
    }

-- the second instalment of any lump
second_paid : (h : Head) (p : Pension) (x : ℕ) → SecondPaid p (share_of h p x)
unfolding share_of second_of
second_paid h p x =
    record { paid = λ e. rw (eq-eqb p.kind 2 e) (omega arith); none = λ other. rw (ne_eqb p.kind 2 other) refl }

-- both at the place of a pension
pub each_share : (h : Head) (ps : List Pension) (xs : List ℕ) (after : List Share) → Accepted h ps → WithinCaps (benefits_of h ps) xs
    → (j : ℕ) → j < length ps
    → GivenUp (get_or (benefits_of h ps) j no_benefit) (get_or (shares_of h ps xs ++ after) j no_share)
    × SecondPaid (get_or ps j no_pension) (get_or (shares_of h ps xs ++ after) j no_share)
each_share h [] xs after a capped j place = absurd (omega arith)
each_share h (p ∷ ps) [] after a capped j place = absurd capped
each_share h (p ∷ ps) (x ∷ xs) after a capped zero place =
    (given_up h p x (a.each 0 (omega arith)) capped.0, second_paid h p x)
each_share h (p ∷ ps) (x ∷ xs) after a capped (suc j) place = each_share h ps xs after (accepted_rest a) capped.1 j (omega arith)

-- what is spent covers three times the total and twenty times what is given up
one_given : (h : Head) (p : Pension) (x : ℕ) → AcceptedPension h p → x ≤ (benefit_of h p).cap.0
    → 3000000000 * x + 20000000000 * (benefit_of h p).pension.0
    ≤ x * price_of (benefit_of h p).factor + 20000000000 * (share_of h p x).remaining.0
unfolding benefit_of share_of
one_given h p x a capped =
    let g = given_up h p x a capped in
    let e = factor_of (age_of h) p in
    let positive = (factor_range h p a).top_positive in
    omega (
      arith,
      price_given x (price_of e) e.top e.bottom g.pence positive (price_covers e positive) g.not_above,
      g.remains,
    )

pub spend_given : (h : Head) (ps : List Pension) (xs : List ℕ) → Accepted h ps → WithinCaps (benefits_of h ps) xs
    → 3000000000 * total xs + 20000000000 * total_pension (benefits_of h ps)
    ≤ spend (benefits_of h ps) xs + 20000000000 * total_remaining (shares_of h ps xs)
spend_given h [] [] a capped = omega arith
spend_given h [] (x ∷ xs) a capped = absurd capped
spend_given h (p ∷ ps) [] a capped = absurd capped
spend_given h (p ∷ ps) (x ∷ xs) a capped =
    omega (arith, one_given h p x (a.each 0 (omega arith)) capped.0, spend_given h ps xs (accepted_rest a) capped.1)

-- the places of no pension are zeros
none_shared : (n j : ℕ) → get_or (replicate n no_share) j no_share ≡ no_share
none_shared zero j = refl
none_shared (suc n) zero = refl
none_shared (suc n) (suc j) = none_shared n j

pub others_none : (xs : List Share) (n j : ℕ) → length xs ≤ j → get_or (xs ++ replicate n no_share) j no_share ≡ no_share
others_none [] n j place = none_shared n j
others_none (x ∷ xs) n zero place = absurd (omega arith)
others_none (x ∷ xs) n (suc j) place = others_none xs n j (omega arith)

pub padded_remaining : (xs : List Share) (n : ℕ) → total_remaining (xs ++ replicate n no_share) ≡ total_remaining xs
padded_remaining [] zero = refl
padded_remaining [] (suc n) = omega (arith, padded_remaining [] n)
padded_remaining (x ∷ xs) n = omega (arith, padded_remaining xs n)
