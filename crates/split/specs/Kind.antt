-- The number of each kind ("Kinds" of document 01). Assumes nothing.
use Rattle.std.specs.Prelude.{ℕ, ◌≡◌, Result, Ok, Err, false}
use Rattle.calendar.specs.Tests.{within}
use Rattle.refusals.specs.declared.Refusal.{Refusal}
use Rattle.refusals.specs.declared.Refusal.TheVariants.{UnknownKind}
use Rattle.split.specs.declared.kind.Kind.{Kind}
use Rattle.split.specs.declared.kind.Kind.TheVariants.{Service1987, AfterBreak1987, Service2015}

-- "1, a 1987 pension paid straight from service ..; 2, a 1987 pension after a break ..; 3, a 2015 pension from active service"
abbrev pub kind_number : Kind → ℕ
kind_number Service1987 = 1
kind_number AfterBreak1987 = 2
kind_number Service2015 = 3

-- the kind that a number stands for, or refusal 6 where it is none from 1 to 3
abbrev pub GivesKind : ℕ → Result Kind Refusal → Type 0
GivesKind n (Ok k) = kind_number k ≡ n
GivesKind n (Err r) = (r ≡ UnknownKind) × (within 1 3 n ≡ false)
