-- Trivial commutation of a former officer's small pension (request [3] of document 02; document 004, 2.3 and 2.4). Assumes
-- nothing.
use Rattle.std.specs.Prelude.{ℕ, ◌+◌, ◌*◌, ◌/◌, ◌≤◌, ◌<◌, Bool, cond, not, ◌&&◌, ◌||◌, List, [], ◌∷◌, ◌≡◌, ◌⊎◌, leb, eqb, length, get_or}
use Rattle.calendar.specs.Tests.{within}
use Rattle.trivial_commutation.specs.declared.tables.Factors.{Factors}
use Rattle.trivial_commutation.specs.Answers.{Commuted}
use Rattle.trivial_commutation.specs.Tables.{Row, row, small_pension_1987, small_pension_2006_and_2015}

-- "member's pension times its factor plus survivor's pension times its factor, the sum then taken down to the penny"; "The factors
-- are in tenths"
unfoldable pub lump_sum : Factors → ℕ → ℕ → ℕ
lump_sum f member survivor = (member * f.member + survivor * f.survivor) / 10

-- "The scheme is given by its year: 1987 uses Table 1", of document 004
unfoldable pub uses_table_1 : ℕ → Bool
uses_table_1 scheme = eqb scheme 1987

-- "2006 and 2015 use Table 2"
unfoldable pub uses_table_2 : ℕ → Bool
uses_table_2 scheme = eqb scheme 2006 || eqb scheme 2015

-- the rows of a scheme; another year has none
unfoldable pub table_of : ℕ → List Row
table_of scheme = cond (uses_table_1 scheme) small_pension_1987 (cond (uses_table_2 scheme) small_pension_2006_and_2015 [])

-- what stands for no row: zeros
abbrev pub no_row : Row
no_row = row 0 0 0

-- the row of an age in a table: the first that has it
abbrev pub row_of : List Row → ℕ → Row
row_of [] age = no_row
row_of (r ∷ rs) age = cond (eqb r.age age) r (row_of rs age)

-- "Age is completed years, 60 to 99"
unfoldable pub bad_age : ℕ → Bool
bad_age age = not (within 60 99 age)

-- a scheme outside "1987 .. 2006 and 2015": one that uses neither table
unfoldable pub bad_scheme : ℕ → Bool
bad_scheme scheme = not (uses_table_1 scheme || uses_table_2 scheme)

-- "either pension is at most 50,000,000 and the member's is above 0"
unfoldable pub bad_pension : ℕ → ℕ → Bool
bad_pension member survivor = not (within 1 50000000 member && leb survivor 50000000)

-- "each scheme and age gets its own row's two factors, and no others": the scheme has its table, and the row stands there, has
-- the age, and no other row has it
abbrev pub OwnTable : ℕ → List Row → Type 0
OwnTable scheme table =
    ((scheme ≡ 1987) × (table ≡ small_pension_1987)) ⊎ (((scheme ≡ 2006) ⊎ (scheme ≡ 2015)) × (table ≡ small_pension_2006_and_2015))

pub record OwnRow (table : List Row) (age : ℕ) (r : Row) : Type 0 where
  pub place : ℕ
  pub inside : place < length table
  pub holds : get_or table place no_row ≡ r
  pub aged : r.age ≡ age
  pub only : (k : ℕ) → k < length table → (get_or table k no_row).age ≡ age → k ≡ place

-- "It refuses with 15 an age, scheme or pension outside these"
unfoldable pub refused : ℕ → ℕ → ℕ → ℕ → Bool
refused scheme age member survivor = bad_age age || (bad_scheme scheme || bad_pension member survivor)

-- the refusal with no lump, or the lump
unfoldable pub trivial_commutation : ℕ → ℕ → ℕ → ℕ → Commuted
trivial_commutation scheme age member survivor =
    cond (refused scheme age member survivor) (record { refusal = 15; lump = record { 0 = 0 } })
    (record { refusal = 0; lump = record { 0 = lump_sum (row_of (table_of scheme) age).factors member survivor } })

-- a scheme, an age and pensions that are not outside
pub record Commutable (scheme age member survivor : ℕ) : Type 0 where
  pub of_scheme : (scheme ≡ 1987) ⊎ ((scheme ≡ 2006) ⊎ (scheme ≡ 2015))
  pub age_low : 60 ≤ age
  pub age_high : age ≤ 99
  pub member_low : 1 ≤ member
  pub member_high : member ≤ 50000000
  pub survivor_high : survivor ≤ 50000000

-- the lump is by the two factors of the age's own row in the scheme's own table: the sum for both pensions covers it, and does not
-- cover a penny more
pub record CommutedByOwnRow (scheme age member survivor lump : ℕ) : Type 0 where
  pub table : List Row
  pub by : Row
  pub own_table : OwnTable scheme table
  pub own_row : OwnRow table age by
  pub covered : 10 * lump ≤ member * by.factors.member + survivor * by.factors.survivor
  pub most : member * by.factors.member + survivor * by.factors.survivor < 10 * (lump + 1)

-- What is claimed of every answer: no refusal and such a lump for what is commutable, 15 and no lump for what is not.
pub record CommutationClaim (scheme age member survivor : ℕ) (c : Commuted) : Type 0 where
  pub granted : Commutable scheme age member survivor
      → (c.refusal ≡ 0) × CommutedByOwnRow scheme age member survivor c.lump.0
  pub outside : (Commutable scheme age member survivor → ⊥) → (c.refusal ≡ 15) × (c.lump.0 ≡ 0)
