-- The quote of a case line ("Split" and "Refusals from the input" of document 01). A case is its head, its pensions, and the
-- pence of allowance already used. Assumes nothing.
use Rattle.std.specs.Prelude.{ℕ, ◌-◌, ◌*◌, ◌/◌, ◌<◌, cond, List, [], ◌∷◌, ◌++◌, ◌≡◌, eqb, length, take, drop, replicate, Result, Ok, Err}
use Rattle.refusals.specs.declared.Refusal.{Refusal}
use Rattle.refusals.specs.Numbers.{number}
use Rattle.split.specs.Allowance.{Allowance}
use Rattle.split.specs.declared.case.Head.{Head}
use Rattle.split.specs.declared.case.Pension.{Pension}
use Rattle.split.specs.declared.limits.Benefit.{Benefit}
use Rattle.split.specs.declared.answers.Share.{Share}
use Rattle.split.specs.declared.answers.Granted.{Granted}
use Rattle.split.specs.Answers.{Quote}
use Rattle.split.specs.Case.{head_of, pensions_of, allowance_used_of}
use Rattle.split.specs.Refusal.{refusal_of}
use Rattle.split.specs.Benefits.{benefit_of, benefits_of}
use Rattle.split.specs.Allowance.{allowance_of}
use Rattle.split.specs.Limits.{total, Best}
use Rattle.split.specs.Grant.{grant}

-- "Pension given up: lump ÷ E, down; remaining is P less that"
unfoldable pub remaining_of : Benefit → ℕ → ℕ
remaining_of b lump = b.pension.0 - lump * b.factor.bottom / b.factor.top

-- "Second instalment, kind 2: lump × PI ÷ 10,000, down; else 0"
unfoldable pub second_of : Pension → ℕ → ℕ
second_of p lump = cond (eqb p.kind 2) (lump * p.terms.increase / 10000) 0

-- lump, remaining pension and second instalment of one pension
unfoldable pub share_of : Head → Pension → ℕ → Share
share_of h p lump =
    record {
      lump = record { 0 = lump };
      remaining = record { 0 = remaining_of (benefit_of h p) lump };
      second = record { 0 = second_of p lump };
    }

abbrev pub no_share : Share
no_share = record { lump = record { 0 = 0 }; remaining = record { 0 = 0 }; second = record { 0 = 0 } }

-- the shares of pensions, each with its lump
abbrev pub shares_of : Head → List Pension → List ℕ → List Share
shares_of h [] xs = []
shares_of h (p ∷ ps) [] = []
shares_of h (p ∷ ps) (x ∷ xs) = share_of h p x ∷ shares_of h ps xs

-- "zeros for pensions not there": four places
abbrev pub padded : List Share → List Share
padded shares = shares ++ replicate (4 - length shares) no_share

-- the lumps granted to a case
unfoldable pub lumps_granted : Head → List Pension → ℕ → List ℕ
lumps_granted h ps used = grant (allowance_of h.commencement used) (benefits_of h ps)

-- no refusal: the grant
unfoldable pub granted_quote : Head → List Pension → ℕ → Quote
granted_quote h ps used =
    record {
      refusal = 0;
      member = h.member;
      total = record { 0 = total (lumps_granted h ps used) };
      shares = padded (shares_of h ps (lumps_granted h ps used));
    }

-- "All figures are zero"
unfoldable pub refused_quote : ℕ → Quote
refused_quote r = record { refusal = r; member = 0; total = record { 0 = 0 }; shares = replicate 4 no_share }

-- a grant as a quote
abbrev pub as_quote : Granted → Quote
as_quote g = record { refusal = 0; member = g.member; total = g.total; shares = g.shares }

-- the answer of the code as a quote: a refusal by its number, with zero figures
abbrev pub answered : Result Granted Refusal → Quote
answered (Ok g) = as_quote g
answered (Err r) = refused_quote (number r)

-- the quote of a line
unfoldable pub quote_of : List ℕ → Quote
quote_of s =
    cond (eqb (refusal_of s) 0) (granted_quote (head_of s) (pensions_of s) (allowance_used_of s)) (refused_quote (refusal_of s))

-- the lumps of shares
abbrev pub lumps_in : List Share → List ℕ
lumps_in [] = []
lumps_in (x ∷ xs) = x.lump.0 ∷ lumps_in xs

-- the allowance of the case of a line
abbrev pub allowance_in : List ℕ → Allowance
allowance_in s = allowance_of (head_of s).commencement (allowance_used_of s)

-- What is claimed of four lumps and their sum for the case of a line: those of its pensions are the best split (see
-- `Best`), no other place has one, and the sum is theirs.
pub record BestLumps (s : List ℕ) (four : List ℕ) (sum : ℕ) : Type 0 where
  pub split : Best (allowance_in s) (benefits_of (head_of s) (pensions_of s)) (take (head_of s).count four)
  pub rest : drop (head_of s).count four ≡ replicate (4 - (head_of s).count) 0
  pub summed : sum ≡ total (take (head_of s).count four)

-- Every figure of a quote fits 32 bits, and there are four shares.
abbrev pub SharesFit : List Share → Type 0
SharesFit [] = Unit
SharesFit (x ∷ xs) =
    (x.lump.0 < 4294967296) × (x.remaining.0 < 4294967296) × (x.second.0 < 4294967296) × SharesFit xs

pub record QuoteFits (q : Quote) : Type 0 where
  pub member : q.member < 4294967296
  pub total : q.total.0 < 4294967296
  pub four : length q.shares ≡ 4
  pub shares : SharesFit q.shares
