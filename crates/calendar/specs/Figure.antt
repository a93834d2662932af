-- Figures: rows that say what a definition gives and what it should, and the one test that a whole list of them passes.
-- Assumes nothing.
use Rattle.std.specs.Prelude.{ℕ, Bool, true, ◌&&◌, List, [], ◌∷◌, eqb}

pub record Figure : Type 0 where
  pub gives : ℕ
  pub wanted : ℕ

abbrev pub figure : ℕ → ℕ → Figure
figure x y = record { gives = x; wanted = y }

-- every row holds
abbrev pub hold : List Figure → Bool
hold [] = true
hold (f ∷ fs) = eqb f.gives f.wanted && hold fs
