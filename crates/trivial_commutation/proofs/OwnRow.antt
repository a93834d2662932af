-- Each age has its own row: one argument over any table whose rows have the ages from a first to a last, each once and in their
-- order, which antt computes of both tables. Assumes nothing.
use Prim.Native.Nat.{ℕ, zero, suc, ◌+◌, ◌-◌, ◌≤◌, ◌<◌}
use mathlib.Core.Path.{◌≡◌, refl, sym, ◌∙◌, ap}
use mathlib.Core.Bool.{Bool, true, false, ◌&&◌, ◌||◌, true≢false}
use mathlib.Core.List.{List, [], ◌∷◌, map}
use native.Mathlib.Omega.{arith}
use lib.Dec.{eqb}
use lib.ListN.{length, get_or, get_or-map}
use borrow.Author.Tests.{eqb-true, eqb-false}
use Rattle.calendar.proofs.TestsLaws.{and_left, and_right, by_test}
use Rattle.std.specs.Prelude.{Some}
use Rattle.trivial_commutation.specs.declared.tables.Factors.{Factors}
use Rattle.trivial_commutation.specs.declared.tables.Table.{Table}
use Rattle.trivial_commutation.specs.declared.tables.Table.TheVariants.{First, Second}
use Rattle.trivial_commutation.specs.Tables.{Row, small_pension_1987, small_pension_2006_and_2015, rows_of}
use Rattle.trivial_commutation.specs.TrivialCommutation.{uses_table_1, uses_table_2, table_of, no_row, row_of, OwnRow}

-- the factors of a row
abbrev pub factors : Row → Factors
factors r = r.factors

-- each row has the age after that of the row before
abbrev pub consecutive : ℕ → List Row → Bool
consecutive age [] = true
consecutive age (r ∷ rs) = eqb r.age age && consecutive (suc age) rs

-- the ages from a first to a last
abbrev pub of_ages : ℕ → ℕ → List Row → Bool
of_ages first last table = eqb (first + length table) (suc last) && consecutive first table

-- the age at a place
age_at : (first : ℕ) (table : List Row) → consecutive first table ≡ true → (k : ℕ) → k < length table
    → (get_or table k no_row).age ≡ first + k
age_at first [] t k h = absurd (omega arith)
age_at first (r ∷ rs) t zero h = omega (arith, eqb-true r.age first (and_left (eqb r.age first) _ t))
age_at first (r ∷ rs) t (suc k) h = omega (arith, age_at (suc first) rs (and_right (eqb r.age first) _ t) k (omega arith))

-- a row with an age that no row before it has is the one looked up
row_at_place : (table : List Row) (age k : ℕ) → k < length table → (get_or table k no_row).age ≡ age
    → ((j : ℕ) → j < k → (get_or table j no_row).age ≡ age → ⊥) → row_of table age ≡ get_or table k no_row
row_at_place [] age k h e before = absurd (omega arith)
row_at_place (r ∷ rs) age zero h e before =
    by_test (λ (x : Row). x ≡ r) (eqb r.age _) _ _ (λ t. refl) (λ f. absurd (eqb-false r.age _ f (omega arith)))
row_at_place (r ∷ rs) age (suc k) h e before =
    by_test (λ (x : Row). x ≡ get_or rs k no_row) (eqb r.age _) _ _
    (λ t. absurd (before 0 (omega arith) (omega (arith, eqb-true r.age _ t))))
    (λ f. row_at_place rs age k (omega arith) e (λ j l. before (suc j) (omega arith)))

-- an age that no row has
no_row_at : (table : List Row) (age : ℕ) → ((k : ℕ) → k < length table → (get_or table k no_row).age ≡ age → ⊥)
    → row_of table age ≡ no_row
no_row_at [] age none = refl
no_row_at (r ∷ rs) age none =
    by_test (λ (x : Row). x ≡ no_row) (eqb r.age _) _ _
    (λ t. absurd (none 0 (omega arith) (omega (arith, eqb-true r.age _ t))))
    (λ f. no_row_at rs age (λ k h. none (suc k) (omega arith)))

-- What a table of the ages from a first to a last gives: an age's row is its own; its factors stand as many places
-- from the start as the age is from the first; and other ages have no row.
pub record Ages (first last : ℕ) (table : List Row) : Type 0 where
  pub own : (age : ℕ) → first ≤ age → age ≤ last → OwnRow table age (row_of table age)
  pub placed : (age : ℕ) → first ≤ age → age ≤ last → get_or (map factors table) (age - first) no_row.factors ≡ (row_of table age).factors
  pub none : (age : ℕ) → (first ≤ age → age ≤ last → ⊥) → row_of table age ≡ no_row

-- the argument, for any table
own_rows : (first last : ℕ) (table : List Row) → of_ages first last table ≡ true → Ages first last table
own_rows first last table t = record {
  own = λ age low high. record {
    place = age - first;
    inside = omega (arith, size);
    holds = sym (found age low high);
    aged = ap (λ (r : Row). r.age) (found age low high) ∙ omega (arith, ages (age - first) (omega (arith, size)));
    only = λ k h e. omega (arith, ages k h);
  };
  placed = λ age low high. get_or-map factors table (age - first) no_row ∙ ap (λ (r : Row). r.factors) (sym (found age low high));
  none = λ age out. no_row_at table age (λ k h e. out (omega (arith, ages k h)) (omega (arith, size, ages k h)));
}
  where
    size : first + length table ≡ suc last
    size = eqb-true _ _ (and_left (eqb (first + length table) (suc last)) _ t)

    ages : (k : ℕ) → k < length table → (get_or table k no_row).age ≡ first + k
    ages = age_at first table (and_right (eqb (first + length table) (suc last)) _ t)

    found : (age : ℕ) → first ≤ age → age ≤ last → row_of table age ≡ get_or table (age - first) no_row
    found age low high =
        row_at_place table age (age - first) (omega (arith, size)) (omega (arith, size, ages (age - first) (omega (arith, size))))
        (λ j h e. omega (arith, size, ages j (omega (arith, size))))

-- both tables
pub ages_1987 : Ages 60 99 small_pension_1987
unfolding small_pension_1987
ages_1987 = own_rows 60 99 small_pension_1987 refl

pub ages_2006_2015 : Ages 60 99 small_pension_2006_and_2015
unfolding small_pension_2006_and_2015
ages_2006_2015 = own_rows 60 99 small_pension_2006_and_2015 refl

-- what holds of both tables, each where a scheme uses it, and of no rows where it uses neither, holds of the scheme's table
pub by_table : (P : List Row → Type 0) (scheme : ℕ) → (uses_table_1 scheme ≡ true → P small_pension_1987)
    → (uses_table_2 scheme ≡ true → P small_pension_2006_and_2015) → ((uses_table_1 scheme || uses_table_2 scheme) ≡ false → P [])
    → P (table_of scheme)
unfolding table_of
by_table P scheme first second neither =
    by_test P (uses_table_1 scheme) _ _ first
    (λ e. by_test P (uses_table_2 scheme) _ _ second (λ f. neither (simp (e, f))))

-- a scheme that uses one of them has the ages from 60 to 99, and no scheme has others
pub scheme_ages : (scheme : ℕ) → (uses_table_1 scheme || uses_table_2 scheme) ≡ true → Ages 60 99 (table_of scheme)
scheme_ages scheme t =
    by_table (Ages 60 99) scheme (λ e. ages_1987) (λ e. ages_2006_2015) (λ f. absurd (true≢false (sym t ∙ f)))

pub no_age : (scheme age : ℕ) → (60 ≤ age → age ≤ 99 → ⊥) → row_of (table_of scheme) age ≡ no_row
no_age scheme age out =
    by_table (λ (table : List Row). row_of table age ≡ no_row) scheme (λ e. ages_1987.none age out)
    (λ e. ages_2006_2015.none age out) (λ e. refl)

-- so the code's rows are the scheme's: of a table that it uses
pub placed : (scheme age : ℕ) (table : Table) → rows_of (Some table) ≡ table_of scheme → 60 ≤ age → age ≤ 99
    → get_or (map factors (rows_of (Some table))) (age - 60) no_row.factors ≡ (row_of (table_of scheme) age).factors
placed scheme age First e low high = rw (← e) (ages_1987.placed age low high)
placed scheme age Second e low high = rw (← e) (ages_2006_2015.placed age low high)
