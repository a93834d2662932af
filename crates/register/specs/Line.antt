-- A register line ("Register" of document 01): the header's figures, then the figures of each share, in uppercase
-- hexadecimal digits, and a newline; written from a number and a case line, and read back. Assumes nothing.
use Rattle.std.specs.Prelude.{ℕ, zero, suc, ◌+◌, ◌*◌, List, [], ◌∷◌, ◌++◌}
use Rattle.split.specs.declared.answers.Share.{Share}
use Rattle.split.specs.Answers.{Quote}
use Rattle.split.specs.Frame.{number_at, hex_text}
use Rattle.split.specs.Quote.{quote_of, lumps_in}

-- "quote number 8, member 8, total lump 8": every figure has eight digits
abbrev pub figure_width : ℕ
figure_width = 8

-- where the header's figures begin, and how long it is
abbrev pub number_place : ℕ
number_place = 0

abbrev pub member_place : ℕ
member_place = number_place + figure_width

abbrev pub total_place : ℕ
total_place = member_place + figure_width

abbrev pub header_length : ℕ
header_length = total_place + figure_width

-- "lump 8, remaining pension 8, second instalment 8": where a share's figures begin behind its lump, and how long it is
abbrev pub remaining_place : ℕ
remaining_place = figure_width

abbrev pub second_place : ℕ
second_place = remaining_place + figure_width

abbrev pub share_length : ℕ
share_length = second_place + figure_width

-- "then four times"
abbrev pub share_count : ℕ
share_count = 4

-- "A register line is 120 characters and a newline"
unfoldable pub text_length : ℕ
text_length = header_length + share_count * share_length

-- the figures of a line by their names
pub record Figures : Type 0 where
  pub number : ℕ
  pub member : ℕ
  pub total : ℕ
  pub shares : List Share

-- the figures of a numbered quote: "zeros for pensions not there" are among its four shares
unfoldable pub figures_of : ℕ → Quote → Figures
figures_of number q = record { number = number; member = q.member; total = q.total.0; shares = q.shares }

-- those of a case line under a number
unfoldable pub figures_for : ℕ → List ℕ → Figures
figures_for number c = figures_of number (quote_of c)

-- the header's figures and a share's in their order
abbrev pub header_figures : Figures → List ℕ
header_figures f = f.number ∷ f.member ∷ f.total ∷ []

abbrev pub share_figures : Share → List ℕ
share_figures x = x.lump.0 ∷ x.remaining.0 ∷ x.second.0 ∷ []

abbrev pub shares_figures : List Share → List ℕ
shares_figures [] = []
shares_figures (x ∷ xs) = share_figures x ++ shares_figures xs

-- those of a line: the header's, then each share's
abbrev pub line_figures : Figures → List ℕ
line_figures f = header_figures f ++ shares_figures f.shares

-- figures written one after the other
unfoldable pub figures_text : List ℕ → List ℕ
figures_text [] = []
figures_text (x ∷ xs) = hex_text figure_width x ++ figures_text xs

-- a line of figures
unfoldable pub line_text : Figures → List ℕ
line_text f = figures_text (line_figures f) ++ (10 ∷ [])

-- the line of a case line under a number
unfoldable pub line_for : ℕ → List ℕ → List ℕ
line_for number c = line_text (figures_for number c)

-- the figures of a line, read back from its digits
unfoldable pub number_in : List ℕ → ℕ
number_in l = number_at l number_place figure_width

unfoldable pub member_in : List ℕ → ℕ
member_in l = number_at l member_place figure_width

unfoldable pub total_in : List ℕ → ℕ
total_in l = number_at l total_place figure_width

abbrev pub share_at : List ℕ → ℕ → Share
share_at l at =
    record {
      lump = record { 0 = number_at l at figure_width };
      remaining = record { 0 = number_at l (at + remaining_place) figure_width };
      second = record { 0 = number_at l (at + second_place) figure_width };
    }

abbrev pub shares_at : List ℕ → ℕ → ℕ → List Share
shares_at l at zero = []
shares_at l at (suc n) = share_at l at ∷ shares_at l (at + share_length) n

unfoldable pub shares_in : List ℕ → List Share
shares_in l = shares_at l header_length share_count

unfoldable pub figures_in : List ℕ → Figures
figures_in l = record { number = number_in l; member = member_in l; total = total_in l; shares = shares_in l }

-- the four lumps
unfoldable pub lumps_in_line : List ℕ → List ℕ
lumps_in_line l = lumps_in (shares_in l)
