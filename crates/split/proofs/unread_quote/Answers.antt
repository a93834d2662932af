-- `unread_quote` is the definition `quote_of` of a line of no right length: the characters first, then the length.
use mathlib.Core.Path.{refl, sym, ◌∙◌}
use native.Mathlib.Omega.{arith}
use Rattle.split.specs.Case.{head_of}
use Rattle.split.proofs.ReadingLaws.{refused_character, refused_length}
use Rattle.split.proofs.QuoteLaws.{quote_refused}
use Rattle.split.proofs.unread_quote.Goals as goal

pub returns-then-has_bad_character : goal.returns-then-has_bad_character
returns-then-has_bad_character c =
    quote_refused _ 1 _ (λ e. omega arith)
    (refused_character _ (sym c.has_bad_character.ensures ∙ c.if-has_bad_character.true)) refl

pub returns : goal.returns
returns c =
    quote_refused _ 2 _ (λ e. omega arith)
    (refused_length _ (head_of c.args.line.now) (sym c.has_bad_character.ensures ∙ c.if-has_bad_character.false) refl
    (c.requires _))
    refl
