-- Table 1 of document 001 ("Months and factors" of document 01), in hundredths. Assumes nothing.
use Rattle.std.specs.Prelude.{ℕ, ◌+◌, ◌-◌, ◌*◌, ◌/◌, ◌%◌, cond, ◌&&◌, List, [], ◌∷◌, leb, eqb, get_or}

-- "Year values, ages 53 to 73": the last only ends the line
unfoldable pub year_values : List ℕ
year_values =
    2540 ∷ 2490 ∷ 2430 ∷ 2370 ∷ 2310 ∷ 2250 ∷ 2190 ∷
    2140 ∷ 2070 ∷ 2010 ∷ 1950 ∷ 1880 ∷ 1820 ∷ 1760 ∷
    1690 ∷ 1630 ∷ 1560 ∷ 1500 ∷ 1430 ∷ 1370 ∷ 1300 ∷ []

-- "Each entry between is the straight line between two year values, to the nearest hundredth, halves up":
-- the entry k months after 53 years
unfoldable pub straight_line : ℕ → ℕ
straight_line k =
    (get_or year_values (k / 12) 0 * (12 - k % 12) + get_or year_values (k / 12 + 1) 0 * (k % 12) + 6) / 12

-- "held for ages 53 years 0 months (636 months) to 72 years 11 months (875)"; 0 at any other age
unfoldable pub table1 : ℕ → ℕ
table1 age = cond (leb 636 age && leb age 875) (straight_line (age - 636)) 0

-- "F1 is 0 (look it up)": the factor given, or the table's
unfoldable pub commutation_factor : ℕ → ℕ → ℕ
commutation_factor given age = cond (eqb given 0) (table1 age) given
