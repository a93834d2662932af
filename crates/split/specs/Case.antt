-- A case line's head and pensions ("Case line" of document 01), and the field that may follow them (request [2] of document
-- 02), over any bytes. Assumes nothing.
use Rattle.std.specs.Prelude.{ℕ, zero, suc, ◌+◌, ◌*◌, cond, List, [], ◌∷◌, ◌++◌, ltb, length}
use Rattle.calendar.specs.Calendar.{date}
use Rattle.factors.specs.declared.effective.FactorTerms.{FactorTerms}
use Rattle.split.specs.declared.case.Head.{Head}
use Rattle.split.specs.declared.case.Service.{Service}
use Rattle.split.specs.declared.case.Pension.{Pension}
use Rattle.split.specs.Frame.{number_at, date_at}

-- "Head: member number 4 bytes, birth date, commencement date, count n of pensions 1 byte"
unfoldable pub head_at : List ℕ → ℕ → Head
head_at s at =
    record {
      member = number_at s at 8;
      birth = date_at s (at + 8);
      commencement = date_at s (at + 16);
      count = number_at s (at + 24) 2;
    }

-- a line begins with it
unfoldable pub head_of : List ℕ → Head
head_of s = head_at s 0

-- "service start date, service end date"
unfoldable pub service_at : List ℕ → ℕ → Service
service_at s at = record { start = date_at s at; end = date_at s (at + 8) }

-- "F1 2, F2 2, F3 2, PI 2"
unfoldable pub terms_at : List ℕ → ℕ → FactorTerms
terms_at s at =
    record {
      f1 = number_at s at 4;
      f2 = number_at s (at + 4) 4;
      f3 = number_at s (at + 8) 4;
      increase = number_at s (at + 12) 4;
    }

-- "for each pension 22 bytes: kind 1, yearly pension 4, service .., lift flag 1, F1 2, F2 2, F3 2, PI 2"
unfoldable pub pension_at : List ℕ → ℕ → Pension
pension_at s at =
    record {
      kind = number_at s at 2;
      stated = record { 0 = number_at s (at + 2) 8 };
      service = service_at s (at + 10);
      lift = number_at s (at + 26) 2;
      terms = terms_at s (at + 28);
    }

-- the pension that stands for none
abbrev pub no_pension : Pension
no_pension =
    record {
      kind = 0;
      stated = record { 0 = 0 };
      service = record { start = date 0 0 0; end = date 0 0 0 };
      lift = 0;
      terms = record { f1 = 0; f2 = 0; f3 = 0; increase = 0 };
    }

-- the characters of the head, and of each pension
abbrev pub head_length : ℕ
head_length = 26

abbrev pub pension_length : ℕ
pension_length = 44

-- "A line has 26 + 44n characters"
abbrev pub case_length : ℕ → ℕ
case_length n = head_length + pension_length * n

-- "A case line may end with 4 further bytes"
abbrev pub allowance_used_length : ℕ
allowance_used_length = 8

-- the longest has four pensions and that field
abbrev pub longest_line : ℕ
longest_line = case_length 4 + allowance_used_length

-- the first k pensions: each stands where a line of those before it ends
unfoldable pub pensions_at : List ℕ → ℕ → List Pension
pensions_at s zero = []
pensions_at s (suc k) = pensions_at s k ++ (pension_at s (case_length k) ∷ [])

-- the pensions of the line: as many as its head says
abbrev pub pensions_of : List ℕ → List Pension
pensions_of s = pensions_at s (head_of s).count

-- "pence of allowance already used", at a place where a line of so many characters goes on; "the old lengths mean nothing
-- used", where it ends there
unfoldable pub allowance_used_at : List ℕ → ℕ → ℕ → ℕ
allowance_used_at s at characters = cond (ltb at characters) (number_at s at allowance_used_length) 0

-- the amount used of the line: behind its pensions
abbrev pub allowance_used_of : List ℕ → ℕ
allowance_used_of s = allowance_used_at s (case_length (head_of s).count) (length s)
