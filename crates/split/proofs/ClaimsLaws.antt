-- The claims of every accepted line hold of its quote: what remains and the second instalment by the laws of `Remaining`, the
-- allowance by the total, which is the lower of what is left of it and the total without one, and the order by the order of the
-- turns. Assumes nothing.
use Prim.Native.Nat.{ℕ, ◌+◌, ◌-◌, ◌≤◌, ◌<◌, min}
use mathlib.Core.Bool.{true, false, false≢true}
use mathlib.Core.List.{List, ◌++◌}
use mathlib.Core.Logic.{◌⊎◌, inl, inr, ⊎_elim}
use mathlib.Core.Path.{◌≡◌, refl, ◌∙◌, ap}
use native.Mathlib.Decide.{dec_le}
use native.Mathlib.Omega.{arith}
use Rattle.std.proofs.lemmas.Bool.Decides.{nat_tests}
use lib.ListN.{length, get_or, replicate, length-map, get_or-append}
use Rattle.calendar.specs.declared.Date.{Date}
use Rattle.calendar.specs.Calendar.{earlier}
use Rattle.split.specs.Allowance.{Allowance}
use Rattle.split.specs.declared.answers.Share.{Share}
use Rattle.split.specs.Answers.{Quote}
use Rattle.split.specs.Case.{head_of, pensions_of, allowance_used_of}
use Rattle.split.specs.Refusal.{refusal_of}
use Rattle.split.specs.Benefits.{benefit_of}
use Rattle.split.specs.Allowance.{allowance_start, no_allowance, allowance_of, allowed}
use Rattle.split.specs.Limits.{total}
use Rattle.split.specs.Grant.{grant}
use Rattle.split.specs.Quote.{no_share, shares_of, lumps_granted, granted_quote, quote_of, lumps_in, allowance_in}
use Rattle.split.specs.Claims.{benefits_in, RemainingClaim, FromStart, BeforeStart, Commences, NoneMore, AllowanceClaim, InTurn}
use Rattle.calendar.proofs.CalendarLaws.{earlier_before, earlier_not_before}
use Rattle.split.proofs.CaseLaws.{pensions_counted}
use Rattle.split.proofs.Accepted.{accepted_tops, accepted_caps}
use Rattle.split.proofs.AllowanceLaws.{allowed_kept}
use Rattle.split.proofs.Best.{grant_best}
use Rattle.split.proofs.Order.{grant_in_turn}
use Rattle.split.proofs.Remaining.{each_share, spend_given, others_none, padded_remaining}
use Rattle.split.proofs.QuoteLaws.{GrantedCase, case_granted, by_refusal, places_counted, shared_counted, shares_lumps}

-- the grant of the case of a line
abbrev lumps_for : List ℕ → List ℕ
lumps_for s = lumps_granted (head_of s) (pensions_of s) (allowance_used_of s)

abbrev quote_for : List ℕ → Quote
quote_for s = granted_quote (head_of s) (pensions_of s) (allowance_used_of s)

-- what holds of the grant of a line that is not refused holds of its quote
granted_so : (P : Quote → Type 0) (s : List ℕ) → refusal_of s ≡ 0 → (GrantedCase s → P (quote_for s)) → P (quote_of s)
granted_so P s e granting = by_refusal P s (λ z. granting (case_granted s z)) (λ refused. absurd (refused e))

-- what remains, and the second instalment
granted_remaining : (s : List ℕ) → GrantedCase s → RemainingClaim s (quote_for s).shares (quote_for s).total.0
unfolding granted_quote
granted_remaining s g =
    let h = head_of s in
    let ps = pensions_of s in
    let shares = shares_of h ps (lumps_for s) in
    let n = 4 - length shares in
    let caps = g.best.priced.caps in
    let share = each_share h ps (lumps_for s) (replicate n no_share) g.accepted caps in
    record {
      each = λ j place. (share j (omega (arith, pensions_counted s h.count))).0;
      second = λ j place. (share j (omega (arith, pensions_counted s h.count))).1;
      others = λ j place. others_none shares n j (omega (arith, places_counted s g));
      quarter = omega (
        arith,
        padded_remaining shares n,
        spend_given h ps (lumps_for s) g.accepted caps,
        g.best.priced.within,
      );
    }

pub remaining_claim : (s : List ℕ) → refusal_of s ≡ 0 → RemainingClaim s (quote_of s).shares (quote_of s).total.0
remaining_claim s e = granted_so (λ q. RemainingClaim s q.shares q.total.0) s e (granted_remaining s)

-- the two sides of the first day of the allowance
before_start : (d : Date) → BeforeStart d.year d.month d.day → earlier d allowance_start ≡ true
before_start d h =
    earlier_before d allowance_start
    (⊎_elim inl (λ y. inr (y.0, ⊎_elim inl (λ m. inr (m.0, omega (arith, m.1))) y.1)) h)

from_start : (d : Date) → FromStart d.year d.month d.day → earlier d allowance_start ≡ false
from_start d h =
    earlier_not_before d allowance_start
    (⊎_elim inl (λ y. inr (y.0, ⊎_elim inl (λ m. inr (m.0, omega (arith, m.1))) y.1)) h)

-- from that day on it applies, and what the amount used leaves of the whole is left
applies_from : (d : Date) (used : ℕ) → FromStart d.year d.month d.day → (allowance_of d used).applies ≡ true
unfolding allowance_of
applies_from d used h = let late = from_start d h in grind (arith, nat_tests)

left_from : (d : Date) (used : ℕ) → FromStart d.year d.month d.day → (allowance_of d used).left.0 ≡ 26827500 - used
unfolding allowance_of
left_from d used h = let late = from_start d h in grind (arith, nat_tests)

-- the allowance of a line on either side
line_before : (s : List ℕ) → Commences BeforeStart s → allowance_in s ≡ no_allowance
unfolding allowance_of
line_before s h = rw (before_start (head_of s).commencement h)

line_from : (s : List ℕ) → Commences FromStart s
    → ◌≡◌ {A = Allowance} (allowance_in s) (record { applies = true; left = record { 0 = 26827500 - allowance_used_of s } })
line_from s h =
    let d = (head_of s).commencement in
    let used = allowance_used_of s in
    λ i. record { applies = applies_from d used h i; left = record { 0 = left_from d used h i } }

-- so before that day the amount used changes no figure
pub used_ignored : (s : List ℕ) (used : ℕ) → Commences BeforeStart s
    → granted_quote (head_of s) (pensions_of s) used ≡ quote_for s
unfolding granted_quote lumps_granted allowance_of
used_ignored s used early = rw (before_start (head_of s).commencement early)

-- the total without an allowance, which no split within caps and limit exceeds
abbrev free_total : List ℕ → ℕ
free_total s = total (grant no_allowance (benefits_in s))

free_most : (s : List ℕ) → GrantedCase s → NoneMore s (free_total s)
free_most s g ys capped within =
    (grant_best no_allowance (benefits_in s) (accepted_tops (head_of s) (pensions_of s) g.accepted)
    (omega (arith, accepted_caps (head_of s) (pensions_of s) g.accepted))).best ys
    (record { caps = capped; allowance = λ e. absurd (false≢true e); within = within })

-- the total of a line on either side
allowed_here : (left lump : ℕ) → allowed (record { applies = true; left = record { 0 = left } }) lump ≡ min lump left
unfolding allowed
allowed_here left lump = refl

total_from : (s : List ℕ) → GrantedCase s → Commences FromStart s → total (lumps_for s) ≡ min (free_total s) (26827500 - allowance_used_of s)
total_from s g h =
    g.capped ∙ ap (λ (a : Allowance). allowed a (free_total s)) (line_from s h) ∙ allowed_here (26827500 - allowance_used_of s) (free_total s)

total_before : (s : List ℕ) → GrantedCase s → Commences BeforeStart s → total (lumps_for s) ≡ free_total s
total_before s g h =
    g.capped ∙ ap (λ (a : Allowance). allowed a (free_total s)) (line_before s h)
    ∙ allowed_kept no_allowance (free_total s) (λ e. absurd (false≢true e))

-- the allowance
granted_allowance : (s : List ℕ) → GrantedCase s → AllowanceClaim s (total (lumps_for s))
granted_allowance s g = record {
  kept = λ h. keeps (dec_le (allowance_used_of s) 26827500) (total_from s g h);
  spent = λ h. spends (dec_le (free_total s) (26827500 - allowance_used_of s)) (total_from s g h);
  before = λ h ys capped within. omega (arith, free_most s g ys capped within, total_before s g h);
}
  where
    sum : ℕ
    sum = total (lumps_for s)

    keeps : Dec (allowance_used_of s ≤ 26827500) → sum ≡ min (free_total s) (26827500 - allowance_used_of s)
        → (sum + allowance_used_of s ≤ 26827500) ⊎ ((26827500 < allowance_used_of s) × (sum ≡ 0))
    keeps (yes some) e = inl (omega arith)
    keeps (no none) e = inr (omega arith)

    spends : Dec (free_total s ≤ 26827500 - allowance_used_of s) → sum ≡ min (free_total s) (26827500 - allowance_used_of s)
        → NoneMore s sum ⊎ (26827500 ≤ sum + allowance_used_of s)
    spends (yes enough) e = inl (λ ys capped within. omega (arith, free_most s g ys capped within))
    spends (no short) e = inr (omega arith)

pub allowance_claim : (s : List ℕ) → refusal_of s ≡ 0 → AllowanceClaim s (quote_of s).total.0
unfolding granted_quote
allowance_claim s e = granted_so (λ q. AllowanceClaim s q.total.0) s e (granted_allowance s)

-- the order
granted_in_turn : (s : List ℕ) → GrantedCase s → InTurn (benefits_in s) (lumps_in (quote_for s).shares)
unfolding granted_quote lumps_granted
granted_in_turn s g i j here there before some =
    lump i here ∙ grant_in_turn (allowance_in s) (benefits_in s) i j here there before (omega (arith, lump j there))
  where
    shares : List Share
    shares = shares_of (head_of s) (pensions_of s) (lumps_for s)

    after : List Share
    after = replicate (4 - length shares) no_share

    lump : (k : ℕ) → k < length (benefits_in s) → get_or (lumps_in (shares ++ after)) k 0 ≡ get_or (lumps_for s) k 0
    lump k place =
        ap (λ (l : List ℕ). get_or l k 0) (shares_lumps after g.each)
        ∙ get_or-append (lumps_for s) (lumps_in after) 0 k
        (omega (arith, shared_counted g.each, length-map (pensions_of s) (benefit_of (head_of s))))

pub in_turn_claim : (s : List ℕ) → refusal_of s ≡ 0 → InTurn (benefits_in s) (lumps_in (quote_of s).shares)
in_turn_claim s e = granted_so (λ q. InTurn (benefits_in s) (lumps_in q.shares)) s e (granted_in_turn s)
