-- Steps: what an event answers and the state after it, and a list of events one after the other. Assumes nothing.
use Rattle.std.specs.Prelude.{List, [], ◌∷◌}

pub record Step (A S : Type 0) : Type 0 where
  pub answer : A
  pub state : S

-- each event gets the state as the one before left it
unfoldable pub runs : {E A S : Type 0} → (S → E → Step A S) → S → List E → Step (List A) S
runs step s [] = record { answer = []; state = s }
runs step s (e ∷ es) =
    record {
      answer = (step s e).answer ∷ (runs step (step s e).state es).answer;
      state = (runs step (step s e).state es).state;
    }
