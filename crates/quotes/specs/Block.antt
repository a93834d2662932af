-- What a block of input leaves: its whole lines are filed, and what stands behind them is kept. Assumes nothing.
use Rattle.std.specs.Prelude.{ℕ, List, ◌≡◌, ◌≢◌, ◌-◌, ◌≤◌, ◌<◌, length, get_or, take, drop}
use Rattle.split.specs.Overlong.{QuotedAs}
use Rattle.register.specs.Layout.{Register}
use Rattle.register.specs.File.{file_run}
use Rattle.register.specs.Text.{text_filings}

-- The whole lines of a text end at a place: a newline stands just before it, but for 0, and none behind.
pub record WholeLines (text : List ℕ) (place : ℕ) : Type 0 where
  pub inside : place ≤ length text
  pub newline_before : 0 < place → get_or text (place - 1) 0 ≡ 10
  pub none_behind : (k : ℕ) → place ≤ k → k < length text → get_or text k 0 ≢ 10

-- the register that the lines of a text leave, with numbers from 1 on
abbrev pub after_text : Register → List ℕ → Register
after_text r text = (file_run r (text_filings 1 text)).state

-- A block is taken: the register is the one that its whole lines leave, and what is kept is quoted as what stands behind them, however
-- the line goes on.
pub record BlockTaken (r : Register) (block : List ℕ) (after : Register) (kept : List ℕ) : Type 0 where
  pub place : ℕ
  pub whole : WholeLines block place
  pub filed : after ≡ after_text r (take place block)
  pub rest : QuotedAs kept (drop place block)
