-- The answers of the engine as the C interface gives them: the same numbers, field by field. Assumes nothing.
use Rattle.std.specs.Prelude.{ℕ, List, map}
use Rattle.split.specs.Answers.{Quote}
use Rattle.register.specs.Answers.{Checked, Filed, Located, LocatedMember}
use Rattle.register.specs.Layout.{Register}
use Rattle.register.specs.Text.{FiledText}
use Rattle.joining.specs.Answers.{Written}
use Rattle.trivial_commutation.specs.Answers.{Commuted}
use Rattle.pension.specs.declared.answers.PensionQuote.{PensionQuote}
use Rattle.pension.specs.declared.answers.PensionChecked.{PensionChecked}
use Rattle.pension.specs.declared.answers.PensionFiled.{PensionFiled}
use Rattle.pension.specs.declared.answers.PensionFiledLines.{PensionFiledLines}
use Rattle.pension.specs.declared.answers.PensionFound.{PensionFound}
use Rattle.pension.specs.declared.answers.PensionFoundMember.{PensionFoundMember}
use Rattle.pension.specs.declared.answers.PensionCommuted.{PensionCommuted}
use Rattle.pension.specs.declared.answers.PensionWritten.{PensionWritten}

-- a quote, with the figures of its four shares side by side
unfoldable pub quote_for_c : Quote → PensionQuote
quote_for_c q = record {
  refusal = q.refusal;
  member = q.member;
  total = q.total.0;
  lump = map (λ s. s.lump.0) q.shares;
  remaining = map (λ s. s.remaining.0) q.shares;
  second = map (λ s. s.second.0) q.shares;
}

-- the check of a register
unfoldable pub checked_for_c : Checked → PensionChecked
checked_for_c k = record { refusal = k.refusal; offset = k.offset }

-- a filing
unfoldable pub filed_for_c : Filed → PensionFiled
filed_for_c f = record { refusal = f.refusal; used = f.used }

-- filings of the lines of a text: what `FiledText` says, of the answer as C has it
abbrev pub FiledTextForC : Register → ℕ → List ℕ → List ℕ → List ℕ → List ℕ → PensionFiledLines → Type 0
FiledTextForC r first text old after refusals f =
    FiledText r first text old after refusals (record { used = f.used; lines = f.lines })

-- where a line was found
unfoldable pub found_for_c : Located → PensionFound
found_for_c l = record { refusal = l.refusal; offset = l.offset; length = l.length }

-- where a member's newest line was found, and how many lines were compared
unfoldable pub found_member_for_c : LocatedMember → PensionFoundMember
found_member_for_c m = record {
  refusal = m.located.refusal;
  offset = m.located.offset;
  length = m.located.length;
  compared = m.compared;
}

-- the trivial commutation of a small pension
unfoldable pub commuted_for_c : Commuted → PensionCommuted
commuted_for_c c = record { refusal = c.refusal; lump = c.lump.0 }

-- a register written into a buffer
unfoldable pub written_for_c : Written → PensionWritten
written_for_c w = record { refusal = w.refusal; used = w.used }
