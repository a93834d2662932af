-- Ranges that keep the arithmetic of private functions within its types. That they hold of an accepted case is proved;
-- nothing here has to be believed. Assumes nothing.
use Rattle.std.specs.Prelude.{ℕ, ◌*◌, ◌/◌, ◌≤◌}
use Rattle.factors.specs.declared.effective.Factor.{Factor}
use Rattle.factors.specs.Effective.{FactorRange}
use Rattle.split.specs.declared.limits.PensionRow.{PensionRow}

-- a pension and its lump, for what remains of it
pub record LumpRange (pension : ℕ) (e : Factor) (lump : ℕ) : Type 0 where
  pub factor : FactorRange e
  pub lump_high : lump ≤ 1000000000
  pub given_up : lump * e.bottom / e.top ≤ pension

-- a row that was given its lump, for its share
pub record ShareRange (r : PensionRow) : Type 0 where
  pub lump : LumpRange r.benefit.pension.0 r.benefit.factor r.lump.0
  pub increase : r.increase ≤ 10000
