-- What the register and the ledger share, at its bounds, as rows: the number given, 12 and 13, and an answer. The claim about
-- a list compares the two, so that it does not see what both use. Assumes nothing.
use Rattle.std.specs.Prelude.{ℕ, Bool, cond, List, [], ◌∷◌, ◌++◌}
use Rattle.calendar.specs.Figure.{Figure, figure}
use Rattle.split.specs.Frame.{hex_text}
use Rattle.register.specs.Line.{figure_width}
use Rattle.register.specs.File.{filing, number_given, no_space, last_taken, filed_answer}

-- a refusal where its condition holds
abbrev pub refused_if : ℕ → Bool → ℕ
refused_if refusal holds = cond holds refusal 0

-- a line that begins with a number
abbrev pub numbered : ℕ → List ℕ
numbered n = hex_text figure_width n

-- the first day of a year, as a case line has it, and the first fields of a case of member 1, who was born on such a day and whose
-- case commences on such a day
abbrev pub new_year : ℕ → List ℕ
new_year year = hex_text 4 year ++ (hex_text 2 1 ++ hex_text 2 1)

abbrev pub commencing : ℕ → List ℕ
commencing year = hex_text 8 1 ++ (new_year 1970 ++ new_year year)

unfoldable pub figures : List Figure
figures =
    -- the default: "the commencement year of the case × 100,000 + 1"
    figure (number_given [] (filing 0 (commencing 1900))) 190000001 ∷
    figure (number_given [] (filing 0 (commencing 2026))) 202600001 ∷
    figure (number_given [] (filing 0 (commencing 2199))) 219900001 ∷
    -- a first number other than 0
    figure (number_given [] (filing 1 (commencing 2026))) 1 ∷
    figure (number_given [] (filing 4294967295 (commencing 2026))) 4294967295 ∷
    -- "A register that has lines ignores it": the last plus one
    figure (number_given (numbered 41 ∷ []) (filing 0 (commencing 2026))) 42 ∷
    figure (number_given (numbered 41 ∷ numbered 42 ∷ []) (filing 7 (commencing 2026))) 43 ∷
    -- "Fewer than 121 bytes free"
    figure (refused_if 12 (no_space 241 121)) 12 ∷
    figure (refused_if 12 (no_space 242 121)) 0 ∷
    -- "Last number is FFFFFFFF"
    figure (refused_if 13 (last_taken (numbered 4294967295 ∷ []) (filing 1 []))) 13 ∷
    figure (refused_if 13 (last_taken (numbered 4294967294 ∷ []) (filing 1 []))) 0 ∷
    figure (refused_if 13 (last_taken [] (filing 4294967295 []))) 0 ∷
    figure (refused_if 13 (last_taken [] (filing 0 (commencing 2199)))) 0 ∷
    -- a used length with no refusal only
    figure (filed_answer 0 242).used 242 ∷
    figure (filed_answer 12 242).used 0 ∷
    figure (filed_answer 12 242).refusal 12 ∷ []
