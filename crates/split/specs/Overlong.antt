-- What is kept of the beginning of a line whose end has not been read. A line too long for a case is refused by its characters
-- and its length alone, so one character more than the longest is enough. Assumes nothing.
use Rattle.std.specs.Prelude.{ℕ, ◌+◌, cond, List, ◌++◌, ◌≡◌, take, drop, set}
use Rattle.split.specs.Frame.{bad_character}
use Rattle.split.specs.Case.{longest_line}
use Rattle.split.specs.Quote.{quote_of}

-- one character more than the longest case line has
abbrev pub kept_length : ℕ
kept_length = longest_line + 1

-- the first characters; where one of the others is bad, a bad one, 0, stands in the first place
unfoldable pub kept_line : List ℕ → List ℕ
kept_line s = cond (bad_character (drop kept_length s)) (set (take kept_length s) 0 0) (take kept_length s)

-- What is claimed of what is kept of a beginning (theorem `kept_quoted`): however the line goes on, what is kept and the rest
-- are quoted as the whole line is.
abbrev pub QuotedAs : List ℕ → List ℕ → Type 0
QuotedAs kept s = (more : List ℕ) → quote_of (kept ++ more) ≡ quote_of (s ++ more)
