-- A text of case lines and the claim of demand 3 as the contract of the call that files them all. Assumes nothing.
use Rattle.std.specs.Prelude.{ℕ, Bool, true, false, cond, List, [], ◌∷◌, ◌++◌, map, ◌≡◌, eqb, length}
use Rattle.register.specs.Answers.{Filed}
use Rattle.register.specs.declared.answers.FiledLines.{FiledLines}
use Rattle.register.specs.Layout.{Register, lent}
use Rattle.register.specs.File.{Filing, filing, file_run}
use Rattle.register.specs.Ledger.{ListClaim}

abbrev pub is_empty : List ℕ → Bool
is_empty [] = true
is_empty (c ∷ cs) = false

-- the lines of a text whose first line begins with the characters before it: a newline ends a line, and the last may lack it
unfoldable pub lines_with : List ℕ → List ℕ → List (List ℕ)
lines_with before [] = cond (is_empty before) [] (before ∷ [])
lines_with before (c ∷ cs) = cond (eqb c 10) (before ∷ lines_with [] cs) (lines_with (before ++ (c ∷ [])) cs)

-- the case lines of a text: LF ends a line, and the last may lack it
unfoldable pub text_lines : List ℕ → List (List ℕ)
text_lines text = lines_with [] text

-- the filings of a text's lines, each with the same first number
abbrev pub text_filings : ℕ → List ℕ → List Filing
text_filings first text = map (filing first) (text_lines text)

-- the refusals of answers over the bytes that were there, as far as there is room
unfoldable pub refusal_bytes : List Filed → List ℕ → List ℕ
refusal_bytes [] old = old
refusal_bytes (a ∷ answers) [] = []
refusal_bytes (a ∷ answers) (o ∷ old) = a.refusal ∷ refusal_bytes answers old

-- What filing the lines of a text in a register, each with the same first number, promises: the answer, the register's bytes and the
-- refusals are those of filing the lines one after the other.
pub record FiledText (r : Register) (first : ℕ) (text old after refusals : List ℕ) (answer : FiledLines) : Type 0 where
  pub answered : answer ≡ record { used = (file_run r (text_filings first text)).state.used; lines = length (text_lines text) }
  pub bytes : after ≡ (file_run r (text_filings first text)).state.bytes
  pub given : refusals ≡ refusal_bytes (file_run r (text_filings first text)).answer old

-- What filing every line of a text into an empty register, each with the same first number, promises: the whole claim of demand 3
-- about the list of its lines, of the very bytes and the used length that it leaves; and the refusals it gave.
pub record FiledAll (s : List ℕ) (first : ℕ) (text old after refusals : List ℕ) (used : ℕ) : Type 0 where
  pub claim : ListClaim s (text_filings first text)
      (record { answer = (file_run (lent s 0) (text_filings first text)).answer; state = lent after used })
  pub given : refusals ≡ refusal_bytes (file_run (lent s 0) (text_filings first text)).answer old
