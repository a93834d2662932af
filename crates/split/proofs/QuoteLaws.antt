-- What the register cites of the split: a quote's figures fit 32 bits, its refusal is the line's, and the lumps of a grant are
-- the best. A case that is not refused is accepted and has at most four pensions, so that every share of its grant is in
-- range and the four places are its lumps and zeros. Assumes nothing.
use Prim.Native.Nat.{ℕ, zero, suc, ◌-◌, ◌*◌, ◌/◌, ◌≤◌, ◌<◌}
use mathlib.Core.Bool.{Bool, true, false, cond}
use mathlib.Core.List.{List, [], ◌∷◌, ◌++◌}
use mathlib.Core.Path.{◌≡◌, refl, sym, ◌∙◌, ap}
use native.Mathlib.Nat.{mul-le-mul_left, div-le_of_le-mul}
use native.Mathlib.Omega.{arith}
use lib.Dec.{eqb}
use lib.ListN.{length, take, replicate, length-append, length-replicate}
use lib.Seq.{take_at, drop_at}
use borrow.Author.Tests.{eqb-true}
use Rattle.split.specs.declared.case.Head.{Head}
use Rattle.split.specs.declared.case.Pension.{Pension}
use Rattle.std.specs.Prelude.{Result, Ok, Err}
use Rattle.refusals.specs.declared.Refusal.{Refusal}
use Rattle.refusals.specs.Numbers.{refusal_number}
use Rattle.split.specs.declared.answers.Share.{Share}
use Rattle.split.specs.declared.answers.Granted.{Granted}
use Rattle.split.specs.Answers.{Quote}
use Rattle.split.specs.Case.{head_at, head_of, pensions_at, pensions_of, allowance_used_at, allowance_used_of, case_length}
use Rattle.split.specs.Frame.{bad_character}
use Rattle.split.specs.Refusal.{bad_length, conditions, refusal_of}
use Rattle.calendar.specs.Tests.{lowest}
use Rattle.split.specs.Benefits.{worked_terms, benefit_of, benefits_of}
use Rattle.split.specs.Allowance.{no_allowance, allowed}
use Rattle.split.specs.Limits.{total, WithinCaps, Best}
use Rattle.split.specs.Grant.{grant}
use Rattle.split.specs.Working.{case_quote}
use Rattle.split.specs.Quote.{remaining_of, second_of, share_of, no_share, shares_of, lumps_granted, granted_quote, refused_quote, as_quote, answered, quote_of, lumps_in, allowance_in, BestLumps, SharesFit, QuoteFits}
use Rattle.calendar.proofs.TestsLaws.{lowest_none, by_zero}
use Rattle.split.proofs.FrameLaws.{number_below}
use Rattle.split.proofs.CaseLaws.{pensions_counted}
use Rattle.split.proofs.ReadingLaws.{length_listed}
use Rattle.split.proofs.Best.{grant_best, grant-total}
use Rattle.split.proofs.LimitsLaws.{total_capped}
use Rattle.split.proofs.Accepted.{AcceptedPension, Accepted, case_accepted, deferred_terms, accepted_rest, accepted_tops, accepted_caps, accepted_pensions}

-- a second instalment is at most its lump
second_at_most : (h : Head) (p : Pension) (lump : ℕ) → AcceptedPension h p → second_of p lump ≤ lump
unfolding second_of worked_terms
second_at_most h p lump a = go (eqb p.kind 2) refl
  where
    go : (b : Bool) → eqb p.kind 2 ≡ b → cond b (lump * p.terms.increase / 10000) 0 ≤ lump
    go true e =
        div-le_of_le-mul 10000
        (omega (arith, mul-le-mul_left lump (deferred_terms h p a (eqb-true p.kind 2 e)).increase_high))
    go false e = omega arith

-- the shares of pensions with a lump each: as many, and one more at the end
pub shares_counted : (h : Head) (ps : List Pension) (xs : List ℕ) → length xs ≡ length ps
    → length (shares_of h ps xs) ≡ length ps
shares_counted h [] xs e = refl
shares_counted h (p ∷ ps) [] e = absurd (omega arith)
shares_counted h (p ∷ ps) (x ∷ xs) e = ap suc (shares_counted h ps xs (omega arith))

pub shares_more : (h : Head) (ps : List Pension) (xs : List ℕ) (p : Pension) (x : ℕ) → length xs ≡ length ps
    → shares_of h (ps ++ (p ∷ [])) (xs ++ (x ∷ [])) ≡ shares_of h ps xs ++ (share_of h p x ∷ [])
shares_more h [] [] p x e = refl
shares_more h [] (y ∷ xs) p x e = absurd (omega arith)
shares_more h (q ∷ ps) [] p x e = absurd (omega arith)
shares_more h (q ∷ ps) (y ∷ xs) p x e =
    ap (λ (l : List Share). share_of h q y ∷ l) (shares_more h ps xs p x (omega arith))

-- a lump for each pension, of which every figure fits
pub data Shared (h : Head) : List Pension → List ℕ → Type 0 where
  none : Shared h [] []
  more : {p : Pension} {ps : List Pension} {x : ℕ} {xs : List ℕ} → x < 4294967296
      → remaining_of (benefit_of h p) x < 4294967296 → second_of p x < 4294967296 → Shared h ps xs → Shared h (p ∷ ps) (x ∷ xs)

-- an accepted case is given such lumps by any split within the caps
shared : (h : Head) (ps : List Pension) (xs : List ℕ) → Accepted h ps → WithinCaps (benefits_of h ps) xs → Shared h ps xs
unfolding benefit_of remaining_of
shared h [] [] a capped = none
shared h [] (x ∷ xs) a capped = absurd capped
shared h (p ∷ ps) [] a capped = absurd capped
shared h (p ∷ ps) (x ∷ xs) a capped =
    let caps = accepted_caps h (p ∷ ps) a in
    more {p = p} {x = x} (omega arith) (omega (arith, accepted_pensions h (p ∷ ps) a))
    (omega (arith, second_at_most h p x (a.each 0 (omega arith)))) (shared h ps xs (accepted_rest a) capped.1)

-- there are as many lumps as pensions
pub shared_counted : {h : Head} {ps : List Pension} {xs : List ℕ} → Shared h ps xs → length xs ≡ length ps
shared_counted none = refl
shared_counted (more x r s rest) = ap suc (shared_counted rest)

-- the lumps of their shares are those given
pub shares_lumps : {h : Head} {ps : List Pension} {xs : List ℕ} (after : List Share) → Shared h ps xs
    → lumps_in (shares_of h ps xs ++ after) ≡ xs ++ lumps_in after
unfolding share_of
shares_lumps after none = refl
shares_lumps after (more {x = x} fits r s rest) = ap (λ (l : List ℕ). x ∷ l) (shares_lumps after rest)

-- their figures fit
shared_fit : {h : Head} {ps : List Pension} {xs : List ℕ} (after : List Share) → SharesFit after → Shared h ps xs
    → SharesFit (shares_of h ps xs ++ after)
unfolding share_of
shared_fit after fit none = fit
shared_fit after fit (more x r s rest) = (x, r, s, shared_fit after fit rest)

-- the places of no pension
none_fit : (n : ℕ) → SharesFit (replicate n no_share)
none_fit zero = tt
none_fit (suc n) = (omega arith, omega arith, omega arith, none_fit n)

none_lumps : (n : ℕ) → lumps_in (replicate n no_share) ≡ replicate n 0
none_lumps zero = refl
none_lumps (suc n) = ap (λ (l : List ℕ). 0 ∷ l) (none_lumps n)

-- as much as the allowance of a line allows of the total without one
abbrev pub allowed_total : List ℕ → ℕ
allowed_total s = allowed (allowance_in s) (total (grant no_allowance (benefits_of (head_of s) (pensions_of s))))

-- what a line has that is not refused
pub record GrantedCase (s : List ℕ) : Type 0 where
  pub few : (head_of s).count ≤ 4
  pub accepted : Accepted (head_of s) (pensions_of s)
  pub capped : total (lumps_granted (head_of s) (pensions_of s) (allowance_used_of s)) ≡ allowed_total s
  pub best : Best (allowance_in s) (benefits_of (head_of s) (pensions_of s)) (lumps_granted (head_of s) (pensions_of s) (allowance_used_of s))
  pub small : total (lumps_granted (head_of s) (pensions_of s) (allowance_used_of s)) ≤ 1000000000
  pub each : Shared (head_of s) (pensions_of s) (lumps_granted (head_of s) (pensions_of s) (allowance_used_of s))

pub case_granted : (s : List ℕ) → refusal_of s ≡ 0 → GrantedCase s
unfolding refusal_of lumps_granted
case_granted s e =
    let h = head_of s in
    let ps = pensions_of s in
    let later = (lowest_none 0 (bad_character s) (bad_length (length s) h.count ∷ conditions h ps) e).1 in
    let last = lowest_none 1 (bad_length (length s) h.count) (conditions h ps) later in
    let a = case_accepted h ps last.1 in
    let caps = accepted_caps h ps a in
    let best = grant_best (allowance_in s) (benefits_of h ps) (accepted_tops h ps a) (omega arith) in
    record {
      few = (length_listed (length s) h.count last.0).counted.1;
      accepted = a;
      capped = grant-total (allowance_in s) (benefits_of h ps) (accepted_tops h ps a) (omega arith);
      best = best;
      small = omega (arith, total_capped (benefits_of h ps) (lumps_granted (head_of s) (pensions_of s) (allowance_used_of s)) best.priced.caps);
      each = shared h ps (lumps_granted (head_of s) (pensions_of s) (allowance_used_of s)) a best.priced.caps;
    }

-- it has as many shares as pensions are counted
pub places_counted : (s : List ℕ) → GrantedCase s
    → length (shares_of (head_of s) (pensions_of s) (lumps_granted (head_of s) (pensions_of s) (allowance_used_of s))) ≡ (head_of s).count
places_counted s g =
    shares_counted (head_of s) (pensions_of s) (lumps_granted (head_of s) (pensions_of s) (allowance_used_of s)) (shared_counted g.each)
    ∙ pensions_counted s (head_of s).count

-- every figure of a grant fits
member_fits : (s : List ℕ) → (head_of s).member < 4294967296
unfolding head_of head_at
member_fits s = number_below s 0 8

granted_fits : (s : List ℕ) → GrantedCase s → QuoteFits (granted_quote (head_of s) (pensions_of s) (allowance_used_of s))
unfolding granted_quote
granted_fits s g =
    let shares = shares_of (head_of s) (pensions_of s) (lumps_granted (head_of s) (pensions_of s) (allowance_used_of s)) in
    record {
      member = member_fits s;
      total = omega arith;
      four = rw (length-append, length-replicate, places_counted s g) (omega arith);
      shares = shared_fit (replicate (4 - length shares) no_share) (none_fit (4 - length shares)) g.each;
    }

-- and of a refusal
refused_fits : (r : ℕ) → QuoteFits (refused_quote r)
unfolding refused_quote
refused_fits r = record { member = omega arith; total = omega arith; four = refl; shares = none_fit 4 }

-- the best lumps of a case, with zeros for the other places, are the best in four places
best_lumps : (s xs four : List ℕ) → four ≡ xs ++ replicate (4 - (head_of s).count) 0 → length xs ≡ (head_of s).count
    → Best (allowance_in s) (benefits_of (head_of s) (pensions_of s)) xs → BestLumps s four (total xs)
best_lumps s xs four e counted best =
    let n = (head_of s).count in
    let first : take n four ≡ xs = rw (e, take_at xs (replicate (4 - n) 0) n counted) in
    record {
      split = rw first best;
      rest = rw (e, drop_at xs (replicate (4 - n) 0) n counted);
      summed = rw first;
    }

-- so are those of a grant
granted_best : (s : List ℕ) → GrantedCase s → BestLumps s (lumps_in (granted_quote (head_of s) (pensions_of s) (allowance_used_of s)).shares) (granted_quote (head_of s) (pensions_of s) (allowance_used_of s)).total.0
unfolding granted_quote
granted_best s g =
    best_lumps s (lumps_granted (head_of s) (pensions_of s) (allowance_used_of s)) _
    (shares_lumps _ g.each ∙ rw (none_lumps, places_counted s g))
    (shared_counted g.each ∙ pensions_counted s (head_of s).count)
    g.best

-- the quote of a line is the grant's or the refusal's
pub by_refusal : (P : Quote → Type 0) (s : List ℕ) → (refusal_of s ≡ 0 → P (granted_quote (head_of s) (pensions_of s) (allowance_used_of s)))
    → ((refusal_of s ≡ 0 → ⊥) → P (refused_quote (refusal_of s))) → P (quote_of s)
unfolding quote_of
by_refusal P s granting refusing =
    by_zero P (refusal_of s) (granted_quote (head_of s) (pensions_of s) (allowance_used_of s)) (refused_quote (refusal_of s)) granting refusing

refused_as : (s : List ℕ) (r : ℕ) → (r ≡ 0 → ⊥) → refusal_of s ≡ r → refused_quote r ≡ quote_of s
refused_as s r some e =
    by_refusal (λ q. refused_quote r ≡ q) s (λ z. absurd (some (sym e ∙ z))) (λ ne. ap refused_quote (sym e))

-- the refusal of a quote is the line's
pub quote_refusal : (s : List ℕ) → (quote_of s).refusal ≡ refusal_of s
unfolding granted_quote refused_quote
quote_refusal s = by_refusal (λ q. q.refusal ≡ refusal_of s) s (λ e. sym e) (λ ne. refl)

-- and that of an answer which is the quote
pub answered_refusal : (a : Result Granted Refusal) (s : List ℕ) → answered a ≡ quote_of s → refusal_number a ≡ refusal_of s
unfolding refused_quote
answered_refusal (Ok g) s e = ap (λ (q : Quote). q.refusal) e ∙ quote_refusal s
answered_refusal (Err r) s e = ap (λ (q : Quote). q.refusal) e ∙ quote_refusal s

-- a line whose quote is a grant has no refusal
pub granted_line : (g : Granted) (s : List ℕ) → as_quote g ≡ quote_of s → refusal_of s ≡ 0
granted_line g s e = sym (answered_refusal (Ok g) s e)

-- the figures of every quote fit
pub quote_fits : (s : List ℕ) → QuoteFits (quote_of s)
quote_fits s = by_refusal QuoteFits s (λ e. granted_fits s (case_granted s e)) (λ ne. refused_fits (refusal_of s))

-- the lumps of a quote without refusal are the best
pub quote_best : (s : List ℕ) → refusal_of s ≡ 0 → BestLumps s (lumps_in (quote_of s).shares) (quote_of s).total.0
quote_best s e =
    by_refusal (λ q. BestLumps s (lumps_in q.shares) q.total.0) s (λ z. granted_best s (case_granted s z))
    (λ ne. absurd (ne e))

-- and their total is the lower of what is left of the allowance, where it applies, and the total without one
pub quote_total : (s : List ℕ) → refusal_of s ≡ 0 → (quote_of s).total.0 ≡ allowed_total s
unfolding granted_quote
quote_total s e =
    by_refusal (λ q. q.total.0 ≡ allowed_total s) s (λ z. (case_granted s z).capped) (λ ne. absurd (ne e))

-- a line that is refused
pub quote_refused : (s : List ℕ) (r : ℕ) (q : Quote) → (r ≡ 0 → ⊥) → refusal_of s ≡ r → q ≡ refused_quote r → q ≡ quote_of s
quote_refused s r q some e made = made ∙ refused_as s r some e

-- and one whose refusal is that of the case that was read: the quote is the case's too
pub quote_read : (s : List ℕ) (h : Head) (q : Quote) → h ≡ head_of s → refusal_of s ≡ lowest 3 (conditions (head_of s) (pensions_of s))
    → q ≡ case_quote h (pensions_at s h.count) (allowance_used_at s (case_length h.count) (length s)) → q ≡ quote_of s
unfolding case_quote quote_of
quote_read s h q read e made = made ∙ rw (read, e)
