-- `is_unknown_kind` is the definition `unknown_kind`, by what the conversion promises.
use Rattle.std.proofs.Common.{rules}
use Rattle.split.specs.Refusal.{unknown_kind}
use Rattle.split.proofs.KindLaws.{refused_kind}
use Rattle.split.proofs.refusal.is_unknown_kind.Goals as goal

pub returns : goal.returns
unfolding unknown_kind
returns c = search (rules, refused_kind _ _ c.try_from.ensures)
