-- A number has no kind exactly where it is none from 1 to 3. By the kinds, one by one.
use Rattle.std.proofs.Common.{ℕ, ◌≡◌, not, Result, Ok, Err, is_err}
use Rattle.calendar.specs.Tests.{within}
use Rattle.refusals.specs.declared.Refusal.{Refusal}
use Rattle.split.specs.declared.kind.Kind.{Kind}
use Rattle.split.specs.declared.kind.Kind.TheVariants.{Service1987, AfterBreak1987, Service2015}
use Rattle.split.specs.Kind.{GivesKind}

pub refused_kind : (n : ℕ) (r : Result Kind Refusal) → GivesKind n r → is_err r ≡ not (within 1 3 n)
refused_kind n (Ok Service1987) e = rw (← e)
refused_kind n (Ok AfterBreak1987) e = rw (← e)
refused_kind n (Ok Service2015) e = rw (← e)
refused_kind n (Err r) e = simp e.1
