-- What is claimed of the quote of every accepted line, beside the best split (see `BestLumps`): what remains of each pension, the
-- second instalment, the allowance, and the order of turns. Each is said by products and sums of the quoted figures. None cites
-- `remaining_of`, `second_of`, `allowance_of` or `goes_first`. Assumes nothing.
use Rattle.std.specs.Prelude.{ℕ, ◌+◌, ◌*◌, ◌≤◌, ◌<◌, List, ◌⊎◌, ◌≡◌, length, get_or}
use Rattle.calendar.specs.Sums.{sum_of}
use Rattle.split.specs.declared.case.Pension.{Pension}
use Rattle.split.specs.declared.limits.Benefit.{Benefit}
use Rattle.split.specs.declared.answers.Share.{Share}
use Rattle.split.specs.Case.{no_pension, head_of, pensions_of, allowance_used_of}
use Rattle.split.specs.Limits.{no_benefit, price_of, total, WithinCaps, spend, priced_limit}
use Rattle.split.specs.Benefits.{benefits_of}
use Rattle.split.specs.Quote.{no_share}

-- the pensions of the case of a line as the limits see them
abbrev pub benefits_in : List ℕ → List Benefit
benefits_in s = benefits_of (head_of s) (pensions_of s)

-- "Pension given up: lump ÷ E, down; remaining is P less that": there are whole pence given up, the most that cost no more than
-- the lump, at most P, which with what remains make P
pub record GivenUp (b : Benefit) (x : Share) : Type 0 where
  pub pence : ℕ
  pub not_above : pence * b.factor.top ≤ x.lump.0 * b.factor.bottom
  pub next_above : x.lump.0 * b.factor.bottom < (pence + 1) * b.factor.top
  pub at_most : pence ≤ b.pension.0
  pub remains : x.remaining.0 + pence ≡ b.pension.0

-- "Second instalment, kind 2: lump × PI ÷ 10,000, down; else 0": the most whole pence that times 10,000 are no more than the lump
-- times PI; for another kind, none
pub record SecondPaid (p : Pension) (x : Share) : Type 0 where
  pub paid : p.kind ≡ 2
      → (x.second.0 * 10000 ≤ x.lump.0 * p.terms.increase)
      × (x.lump.0 * p.terms.increase < (x.second.0 + 1) * 10000)
  pub none : (p.kind ≡ 2 → ⊥) → x.second.0 ≡ 0

-- what remains of all pensions
abbrev pub total_remaining : List Share → ℕ
total_remaining shares = sum_of (λ x. x.remaining.0) shares

-- What is claimed of the shares and the total of a line: each pension is what remains and what is given up, its second
-- instalment is that of its lump, other places have zeros, and "25% of the value, pensions counted at 20" is kept by the figures as
-- printed.
pub record RemainingClaim (s : List ℕ) (shares : List Share) (sum : ℕ) : Type 0 where
  pub each : (j : ℕ) → j < (head_of s).count → GivenUp (get_or (benefits_in s) j no_benefit) (get_or shares j no_share)
  pub second : (j : ℕ) → j < (head_of s).count → SecondPaid (get_or (pensions_of s) j no_pension) (get_or shares j no_share)
  pub others : (j : ℕ) → (head_of s).count ≤ j → get_or shares j no_share ≡ no_share
  pub quarter : 4 * sum ≤ 20 * total_remaining shares + sum

-- "From 6 April 2024": a date on or after that day, and one before it, by year, month and day
abbrev pub FromStart : ℕ → ℕ → ℕ → Type 0
FromStart y m d = (2024 < y) ⊎ ((y ≡ 2024) × ((4 < m) ⊎ ((m ≡ 4) × (6 ≤ d))))

abbrev pub BeforeStart : ℕ → ℕ → ℕ → Type 0
BeforeStart y m d = (y < 2024) ⊎ ((y ≡ 2024) × ((m < 4) ⊎ ((m ≡ 4) × (d < 6))))

-- the commencement of a line is such a date
abbrev pub Commences : (ℕ → ℕ → ℕ → Type 0) → List ℕ → Type 0
Commences when s = when (head_of s).commencement.year (head_of s).commencement.month (head_of s).commencement.day

-- no split within the caps and the priced limit of a line totals more, whatever it leaves of an allowance
abbrev pub NoneMore : List ℕ → ℕ → Type 0
NoneMore s sum =
    (ys : List ℕ) → WithinCaps (benefits_in s) ys → spend (benefits_in s) ys ≤ priced_limit (benefits_in s) → total ys ≤ sum

-- What is claimed of the total of a line. From 6 April 2024 the total and the used amount are at most 26,827,500, or more was used
-- and the total is 0; and the allowance is spent, or nobody does better without it. Before that day nobody does better, whatever
-- the field says: "Earlier commencements ignore the field".
pub record AllowanceClaim (s : List ℕ) (sum : ℕ) : Type 0 where
  pub kept : Commences FromStart s
      → (sum + allowance_used_of s ≤ 26827500) ⊎ ((26827500 < allowance_used_of s) × (sum ≡ 0))
  pub spent : Commences FromStart s → NoneMore s sum ⊎ (26827500 ≤ sum + allowance_used_of s)
  pub before : Commences BeforeStart s → NoneMore s sum

-- "lowest price first, equal prices in line order": with the prices p and q, the pension at i comes before the one at j
abbrev pub ComesBefore : ℕ → ℕ → ℕ → ℕ → Type 0
ComesBefore p q i j = (p < q) ⊎ ((p ≡ q) × (i < j))

-- the price of the pension at a place
abbrev pub price_in : List Benefit → ℕ → ℕ
price_in bs i = price_of (get_or bs i no_benefit).factor

-- What is claimed of the lumps of a line: a pension has something only where every pension that comes before it has its cap.
-- Within the caps this and the total fix every lump (`in_turn_same`), so that "in the same order of prices until the allowance is
-- spent" is said too.
abbrev pub InTurn : List Benefit → List ℕ → Type 0
InTurn bs xs =
    (i j : ℕ) → i < length bs → j < length bs → ComesBefore (price_in bs i) (price_in bs j) i j → 0 < get_or xs j 0
    → get_or xs i 0 ≡ (get_or bs i no_benefit).cap.0
