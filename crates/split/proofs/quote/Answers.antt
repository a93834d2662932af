-- `quote` is the definition `quote_of`: the characters first, then the length, then the case.
use Prim.Native.Nat.{◌<◌, ◌≤◌}
use mathlib.Core.Bool.{false}
use mathlib.Core.Path.{◌≡◌, refl, sym, ◌∙◌}
use native.Mathlib.Omega.{arith}
use lib.ListN.{length}
use Rattle.split.specs.Frame.{bad_character}
use Rattle.split.specs.Case.{head_of, longest_line}
use Rattle.split.specs.Bytes.{block_length}
use Rattle.split.specs.Refusal.{bad_length}
use Rattle.split.proofs.ReadingLaws.{length_unlisted, length_between, refused_character, refused_length, refused_case}
use Rattle.split.proofs.QuoteLaws.{quote_refused, quote_read}
use Rattle.split.proofs.quote.Goals as goal
use Rattle.split.proofs.quote.Goals.{After-read_head-head, Else-decode, Else-has_bad_length, Else-line}

-- past the first test the line is longer than a block, and no longer than the longest
sized : (c : Else-line)
    → (block_length < length c.args.line.now) × (length c.args.line.now ≤ longest_line)
sized c = length_between _ c.if-line.false

pub returns-then-decode : goal.returns-then-decode
returns-then-decode c =
    quote_refused _ 1 _ (λ e. omega arith) (refused_character _ (sym c.decode.ensures.0 ∙ c.if-decode.true))
    refl

-- past the second it has digits only
digits : (c : Else-decode) → bad_character c.args.line.now ≡ false
digits c = sym c.decode.ensures.0 ∙ c.if-decode.false

-- and the values that are read from its bytes are those of the line
headed : (c : After-read_head-head)
    → c.read_head-head.result.value ≡ head_of c.args.line.now
unfolding head_of
headed c =
    c.read_head-head.ensures.value _ (c.decode.ensures.1 c.if-decode.false)
    (omega (arith, sized ((goal.at.After-read_head-head c).Else-line), c.read_head-head.ensures.next))

pub returns-then-has_bad_length : goal.returns-then-has_bad_length
returns-then-has_bad_length c =
    quote_refused _ 2 _ (λ z. omega arith)
    (refused_length _ _ (digits ((goal.at.returns-then-has_bad_length c).Else-decode)) (headed ((goal.at.returns-then-has_bad_length c).After-read_head-head)) (sym c.has_bad_length.ensures ∙ c.if-has_bad_length.true))
    refl

-- past the third its length is that of its count
measured : (c : Else-has_bad_length)
    → bad_length (length c.args.line.now)
    c.read_head-head.result.value.count ≡ false
measured c = sym c.has_bad_length.ensures ∙ c.if-has_bad_length.false

pub returns : goal.returns
returns c =
    quote_read _ _ _ (headed ((goal.at.returns c).After-read_head-head)) (refused_case _ _ (digits ((goal.at.returns c).Else-decode)) (headed ((goal.at.returns c).After-read_head-head)) (measured ((goal.at.returns c).Else-has_bad_length)))
    (c.case_quote.ensures _ (c.decode.ensures.1 c.if-decode.false) (omega arith))

pub unread_quote-requires : goal.unread_quote-requires
unread_quote-requires c = length_unlisted _ c.if-line.true
