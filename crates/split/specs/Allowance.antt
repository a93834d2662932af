-- The lump sum allowance (request [2] of document 02). What is left of it counts only where it applies. Assumes nothing.
use Rattle.std.specs.Prelude.{ℕ, ◌-◌, ◌≤◌, min, Bool, true, false, cond, ◌≡◌}
use Rattle.calendar.specs.declared.Date.{Date}
use Rattle.calendar.specs.Calendar.{date, earlier}
use Rattle.factors.specs.declared.money.LumpPence.{LumpPence}

-- an allowance: whether it applies, and what is left of it
pub record Allowance : Type 0 where
  pub applies : Bool
  pub left : LumpPence

-- "From 6 April 2024"
abbrev pub allowance_start : Date
allowance_start = date 2024 4 6

-- "tax-free lump sums have an allowance of £268,275", in pence
abbrev pub whole_allowance : ℕ
whole_allowance = 26827500

-- where none applies
abbrev pub no_allowance : Allowance
no_allowance = record { applies = false; left = record { 0 = 0 } }

-- "For a commencement on or after that date .. 26,827,500 less the used amount, or zero if more was used": no difference is
-- below 0. "Earlier commencements ignore the field."
unfoldable pub allowance_of : Date → ℕ → Allowance
allowance_of commencement used =
    cond (earlier commencement allowance_start) no_allowance
    (record { applies = true; left = record { 0 = whole_allowance - used } })

-- "the total lump is at most" what is left of an allowance that applies; where none does, every total keeps it
abbrev pub KeepsAllowance : Allowance → ℕ → Type 0
KeepsAllowance a sum = a.applies ≡ true → sum ≤ a.left.0

-- "until the allowance is spent": as much of a lump as it allows, which is the whole lump where none applies
unfoldable pub allowed : Allowance → ℕ → ℕ
allowed a lump = cond a.applies (min lump a.left.0) lump

-- the allowance when a lump has been granted
unfoldable pub after_lump : Allowance → ℕ → Allowance
after_lump a lump = record { applies = a.applies; left = record { 0 = a.left.0 - lump } }
