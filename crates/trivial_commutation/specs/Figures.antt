-- Figures of trivial commutation: document 004's Examples 1 and 2. The rest needs none: `CommutationClaim` is claimed of every answer.
-- Assumes nothing.
use Rattle.std.specs.Prelude.{ℕ, List, [], ◌∷◌}
use Rattle.calendar.specs.Figure.{Figure, figure}
use Rattle.trivial_commutation.specs.TrivialCommutation.{trivial_commutation}

-- the lump of a scheme, an age, the member's pension and the survivor's
abbrev pub lump_of : ℕ → ℕ → ℕ → ℕ → ℕ
lump_of scheme age member survivor = (trivial_commutation scheme age member survivor).lump.0

unfoldable pub figures : List Figure
figures =
    -- Example 1: 650 and 325 pounds a year at 68 in the 1987 scheme, £10,595
    figure (lump_of 1987 68 65000 32500) 1059500 ∷
    -- Example 2: 1,000 and 500 pounds a year at 65 in the 2006 scheme, or the 2015 scheme, £17,950.00
    figure (lump_of 2006 65 100000 50000) 1795000 ∷
    figure (lump_of 2015 65 100000 50000) 1795000 ∷ []
