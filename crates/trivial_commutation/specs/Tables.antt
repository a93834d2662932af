-- Tables 1 and 2 of document 004, "Factors for commutation of small pension", as printed: a row an age with its two factors, in
-- tenths. Eight rows stand in a line. Assumes nothing.
use Rattle.std.specs.Prelude.{ℕ, List, [], ◌∷◌, Option, None, Some}
use Rattle.trivial_commutation.specs.declared.tables.Factors.{Factors}
use Rattle.trivial_commutation.specs.declared.tables.Table.{Table}
use Rattle.trivial_commutation.specs.declared.tables.Table.TheVariants.{First, Second}

-- a row of a table: an age and its two factors
pub record Row : Type 0 where
  pub age : ℕ
  pub factors : Factors

-- "Age in completed years", "Factors for benefits in payment to member", "Factors for survivor's pension"
abbrev pub row : ℕ → ℕ → ℕ → Row
row age member survivor = record { age = age; factors = record { member = member; survivor = survivor } }

-- Table 1: "in the 1987 scheme"
unfoldable pub small_pension_1987 : List Row
small_pension_1987 =
    row 60 192 28 ∷ row 61 187 28 ∷ row 62 182 29 ∷ row 63 176 29 ∷ row 64 171 28 ∷ row 65 165 28 ∷ row 66 160 28 ∷ row 67 154 28 ∷
    row 68 149 28 ∷ row 69 143 28 ∷ row 70 137 27 ∷ row 71 131 27 ∷ row 72 126 27 ∷ row 73 120 27 ∷ row 74 114 25 ∷ row 75 108 24 ∷
    row 76 103 24 ∷ row 77 97 23 ∷ row 78 92 23 ∷ row 79 86 21 ∷ row 80 81 19 ∷ row 81 76 18 ∷ row 82 70 18 ∷ row 83 65 17 ∷
    row 84 61 15 ∷ row 85 56 13 ∷ row 86 52 12 ∷ row 87 48 12 ∷ row 88 44 11 ∷ row 89 40 9 ∷ row 90 37 7 ∷ row 91 34 6 ∷
    row 92 31 6 ∷ row 93 28 5 ∷ row 94 26 5 ∷ row 95 24 5 ∷ row 96 22 4 ∷ row 97 21 4 ∷ row 98 19 4 ∷ row 99 18 3 ∷ []

-- Table 2: "in the 2006 and 2015 schemes"
unfoldable pub small_pension_2006_and_2015 : List Row
small_pension_2006_and_2015 =
    row 60 192 30 ∷ row 61 187 30 ∷ row 62 182 30 ∷ row 63 176 31 ∷ row 64 171 30 ∷ row 65 165 29 ∷ row 66 160 29 ∷ row 67 154 29 ∷
    row 68 149 29 ∷ row 69 143 28 ∷ row 70 137 28 ∷ row 71 131 28 ∷ row 72 126 28 ∷ row 73 120 28 ∷ row 74 114 26 ∷ row 75 108 25 ∷
    row 76 103 24 ∷ row 77 97 24 ∷ row 78 92 23 ∷ row 79 86 21 ∷ row 80 81 19 ∷ row 81 76 19 ∷ row 82 70 18 ∷ row 83 65 18 ∷
    row 84 61 15 ∷ row 85 56 13 ∷ row 86 52 12 ∷ row 87 48 12 ∷ row 88 44 11 ∷ row 89 40 9 ∷ row 90 37 7 ∷ row 91 34 6 ∷
    row 92 31 6 ∷ row 93 28 6 ∷ row 94 26 5 ∷ row 95 24 5 ∷ row 96 22 4 ∷ row 97 21 4 ∷ row 98 19 4 ∷ row 99 18 3 ∷ []

-- the rows of a table that was chosen; no table has none
abbrev pub rows_of : Option Table → List Row
rows_of None = []
rows_of (Some First) = small_pension_1987
rows_of (Some Second) = small_pension_2006_and_2015
