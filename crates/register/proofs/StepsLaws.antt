-- Lists of events: one more at the end, what every step keeps, and two machines of which one shows the other's state. By
-- induction on the events. Assumes nothing.
use Prim.Native.Nat.{suc}
use mathlib.Core.List.{List, [], ◌∷◌, ◌++◌}
use mathlib.Core.Path.{◌≡◌, refl, ap}
use lib.ListN.{length}
use Rattle.register.specs.Steps.{Step, runs}

module _ {E A S : Type 0} (step : S → E → Step A S) where
  -- as many answers as events
  pub runs_count : (s : S) (es : List E) → length (runs step s es).answer ≡ length es
  unfolding runs
  runs_count s [] = refl
  runs_count s (e ∷ es) = ap suc (runs_count (step s e).state es)

  -- one event more
  pub runs_answer : (s : S) (es : List E) (e : E)
      → (runs step s (es ++ (e ∷ []))).answer ≡ (runs step s es).answer ++ ((step (runs step s es).state e).answer ∷ [])
  unfolding runs
  runs_answer s [] e = refl
  runs_answer s (d ∷ es) e = ap (λ (answers : List A). (step s d).answer ∷ answers) (runs_answer (step s d).state es e)

  pub runs_state : (s : S) (es : List E) (e : E) → (runs step s (es ++ (e ∷ []))).state ≡ (step (runs step s es).state e).state
  unfolding runs
  runs_state s [] e = refl
  runs_state s (d ∷ es) e = runs_state (step s d).state es e

  -- what every step keeps
  pub runs_keep : (P : S → Type 0) → ((s : S) (e : E) → P s → P (step s e).state) → (s : S) (es : List E) → P s
      → P (runs step s es).state
  unfolding runs
  runs_keep P keep s [] p = p
  runs_keep P keep s (e ∷ es) p = runs_keep P keep (step s e).state es (keep s e p)

-- a machine over states t that shows, state by state, one over states s: the same answers, and the state shown
module _ {E A S T : Type 0} (step : S → E → Step A S) (step' : T → E → Step A T) (show : S → T) (P : S → Type 0)
    (keep : (s : S) (e : E) → P s → P (step s e).state)
    (square : (s : S) (e : E) → P s → step' (show s) e ≡ record { answer = (step s e).answer; state = show (step s e).state }) where
  pub runs_square : (s : S) (es : List E) → P s
      → runs step' (show s) es ≡ record { answer = (runs step s es).answer; state = show (runs step s es).state }
  unfolding runs
  runs_square s [] p = refl
  runs_square s (e ∷ es) p = simp (square s e p, runs_square (step s e).state es (keep s e p))
