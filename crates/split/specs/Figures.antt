-- The starred figures of document 01: those on months and on Table 1, and those on the split, as one list; and figures of the
-- allowance (request [2] of document 02). Assumes nothing.
use Rattle.std.specs.Prelude.{ℕ, ◌*◌, List, [], ◌∷◌, ◌++◌, length, get_or, replicate}
use Rattle.calendar.specs.declared.Date.{Date}
use Rattle.calendar.specs.Calendar.{date}
use Rattle.calendar.specs.Figure.{Figure, figure}
use Rattle.factors.specs.declared.effective.FactorTerms.{FactorTerms}
use Rattle.factors.specs.Figures.{figures as table_figures}
use Rattle.split.specs.declared.case.Head.{Head}
use Rattle.split.specs.declared.case.Pension.{Pension}
use Rattle.split.specs.declared.answers.Share.{Share}
use Rattle.split.specs.Frame.{hex_text}
use Rattle.split.specs.Case.{pension_length, allowance_used_of}
use Rattle.split.specs.Benefits.{benefit_of}
use Rattle.split.specs.Limits.{total}
use Rattle.split.specs.Quote.{shares_of, no_share, lumps_granted}

-- a member born on 1 June 1968 whose pensions commence on 1 June of a year
abbrev pub head_in : ℕ → ℕ → Head
head_in year n = record { member = 1; birth = date 1968 6 1; commencement = date year 6 1; count = n }

abbrev pub terms_of : ℕ → ℕ → ℕ → ℕ → FactorTerms
terms_of f1 f2 f3 pi = record { f1 = f1; f2 = f2; f3 = f3; increase = pi }

-- a pension of a kind with a stated amount and terms, flag 0, whose service begins on the first of a month and ends on
-- 1 June of a year
abbrev pub pension_of : ℕ → ℕ → Date → ℕ → FactorTerms → Pension
pension_of kind stated start year terms =
    record {
      kind = kind;
      stated = record { 0 = stated };
      service = record { start = start; end = date year 6 1 };
      lift = 0;
      terms = terms;
    }

-- the granted figures of the pension at a place of a case, with nothing used of the allowance
abbrev pub granted : Head → List Pension → ℕ → Share
granted h ps place = get_or (shares_of h ps (lumps_granted h ps 0)) place no_share

-- P 3,000,000, kind 1, F1 2,590, service 360
abbrev pub direct : List Pension
direct = pension_of 1 3000000 (date 1990 6 1) 2020 (terms_of 2590 0 0 0) ∷ []

-- P 3,200,000, kind 2, F1 2,628, F2 2,280, F3 872, PI 1,000, service 360
abbrev pub deferred : Pension
deferred = pension_of 2 3200000 (date 1989 6 1) 2019 (terms_of 2628 2280 872 1000)

-- P 3,000,000, kind 1, F1 2,540, flag 0, with a service start
abbrev pub serving : Date → List Pension
serving start = pension_of 1 3000000 start 2020 (terms_of 2540 0 0 0) ∷ []

-- kind 1 P 2,000,000, F1 2,500, service 360
abbrev pub direct2500 : Pension
direct2500 = pension_of 1 2000000 (date 1993 6 1) 2023 (terms_of 2500 0 0 0)

-- kind 3 stated 900,000
abbrev pub active : Pension
active = pension_of 3 900000 (date 2015 6 1) 2023 (terms_of 0 0 0 0)

-- P 1, kind 1, F1 2,500, service 360
abbrev pub penny : List Pension
penny = pension_of 1 1 (date 1990 6 1) 2020 (terms_of 2500 0 0 0) ∷ []

-- P 6,000,000, kind 1, F1 2,500, service 360
abbrev pub large : List Pension
large = pension_of 1 6000000 (date 1990 6 1) 2020 (terms_of 2500 0 0 0) ∷ []

-- P 3,000,000 twice, kind 1, service 360, the dearer first: F1 2,400, and 2,500
abbrev pub two : List Pension
two =
    pension_of 1 3000000 (date 1990 6 1) 2020 (terms_of 2400 0 0 0) ∷
    pension_of 1 3000000 (date 1990 6 1) 2020 (terms_of 2500 0 0 0) ∷ []

-- the lumps of pensions that commence on a day of April 2024, with an amount used
abbrev pub lumps_in_april : ℕ → List Pension → ℕ → List ℕ
lumps_in_april day ps used =
    lumps_granted (record { member = 1; birth = date 1968 6 1; commencement = date 2024 4 day; count = length ps }) ps used

-- a line that says n pensions and has a text behind them; its other digits are zeros
abbrev pub line_with : ℕ → List ℕ → List ℕ
line_with n text = replicate 24 48 ++ (hex_text 2 n ++ (replicate (pension_length * n) 48 ++ text))

-- the allowance is whole, used in part, spent, and more than spent on its first day, and not looked at on the day before
abbrev pub allowance_figures : List Figure
allowance_figures =
    figure (total (lumps_in_april 6 large 0)) 26827500 ∷
    figure (total (lumps_in_april 6 large 20000000)) 6827500 ∷
    figure (total (lumps_in_april 6 large 26827500)) 0 ∷
    figure (total (lumps_in_april 6 large 4294967295)) 0 ∷
    figure (total (lumps_in_april 5 large 4294967295)) 31578947 ∷
    -- two pensions have it together: the cheaper its cap, the other the rest
    figure (get_or (lumps_in_april 6 two 0) 1 0) 18750000 ∷
    figure (get_or (lumps_in_april 6 two 0) 0 0) 8077500 ∷
    -- the amount used stands behind the pensions; a line that ends there has used nothing
    figure (allowance_used_of (line_with 1 (hex_text 8 20000000))) 20000000 ∷
    figure (allowance_used_of (line_with 4 (hex_text 8 4294967295))) 4294967295 ∷
    figure (allowance_used_of (line_with 2 [])) 0 ∷ []

unfoldable pub figures : List Figure
figures =
    table_figures ++
    (figure (granted (head_in 2020 1) direct 0).lump.0 15905834 ∷
    figure (granted (head_in 2020 1) direct 0).remaining.0 2385876 ∷
    figure (granted (head_in 2020 1) (deferred ∷ []) 0).lump.0 17015192 ∷
    figure (granted (head_in 2020 1) (deferred ∷ []) 0).remaining.0 2552279 ∷
    figure (granted (head_in 2020 1) (deferred ∷ []) 0).second.0 1701519 ∷
    -- "Its cap is 21,015,452"
    figure (benefit_of (head_in 2020 1) deferred).cap.0 21015452 ∷
    -- service 300, and 299 and 360
    figure (granted (head_in 2020 1) (serving (date 1995 6 1)) 0).lump.0 6750000 ∷
    figure (granted (head_in 2020 1) (serving (date 1995 6 1)) 0).remaining.0 2734252 ∷
    figure (granted (head_in 2020 1) (serving (date 1995 7 1)) 0).lump.0 15841995 ∷
    figure (granted (head_in 2020 1) (serving (date 1990 6 1)) 0).lump.0 15841995 ∷
    -- kind 1 with kind 3 at 660 months, on the birthday
    figure (benefit_of (head_in 2023 2) active).pension.0 697500 ∷
    figure (granted (head_in 2023 2) (direct2500 ∷ active ∷ []) 0).lump.0 12500000 ∷
    figure (granted (head_in 2023 2) (direct2500 ∷ active ∷ []) 1).lump.0 1382142 ∷
    figure (granted (head_in 2023 2) (direct2500 ∷ active ∷ []) 0).remaining.0 1500000 ∷
    figure (granted (head_in 2023 2) (direct2500 ∷ active ∷ []) 1).remaining.0 582322 ∷
    figure (granted (head_in 2020 1) penny 0).lump.0 5 ∷
    figure (granted (head_in 2020 1) penny 0).remaining.0 1 ∷ allowance_figures)
