-- The effective factor E of a pension ("Split" of document 01), as a top over a bottom. Assumes nothing.
use Rattle.std.specs.Prelude.{ℕ, ◌+◌, ◌*◌, ◌≤◌, ◌<◌, cond, eqb}
use Rattle.factors.specs.declared.effective.Factor.{Factor}
use Rattle.factors.specs.declared.effective.FactorTerms.{FactorTerms}

-- N = 10,000 × F1 + PI × F2
unfoldable pub lump_top : FactorTerms → ℕ
lump_top t = 10000 * t.f1 + t.increase * t.f2

-- D = 10,000,000 + PI × F3
unfoldable pub lump_bottom : FactorTerms → ℕ
lump_bottom t = 10000000 + t.increase * t.f3

-- "kind 1, F1/100; kind 3, 12; kind 2, 10N/D"; a number that is no kind counts as 3
unfoldable pub effective_factor : ℕ → FactorTerms → Factor
effective_factor kind t =
    cond (eqb kind 1) (record { top = t.f1; bottom = 100 })
    (cond (eqb kind 2) (record { top = 10 * lump_top t; bottom = lump_bottom t })
    (record { top = 12; bottom = 1 }))

-- the range of E for terms within document 01's lists, from 5 to 80, and of its top and bottom; for contracts
pub record FactorRange (e : Factor) : Type 0 where
  pub top_positive : 0 < e.top
  pub bottom_positive : 0 < e.bottom
  pub top_high : e.top ≤ 800000000
  pub bottom_high : e.bottom ≤ 20000000
  pub least : 5 * e.bottom ≤ e.top
  pub most : e.top ≤ 80 * e.bottom

-- E of every kind as 10N/D, for the code: the top and the bottom of E times a number that goes by the kind. Nothing here has
-- to be believed.
unfoldable pub multiplier : ℕ → ℕ
multiplier kind = cond (eqb kind 1) 100000 (cond (eqb kind 2) 1 10000000)

unfoldable pub multiple : ℕ → Factor → Factor
multiple m e = record { top = m * e.top; bottom = m * e.bottom }
