-- `table_factor` is Table 1: antt computes the rule of the straight line at each of the 240 entries.
use borrow.Author.Tests.{le-leb}
use mathlib.Core.Path.{sym, ◌∙◌}
use Prim.Native.Nat.{◌-◌}
use native.Mathlib.Omega.{arith}
use Rattle.factors.specs.Commutation.{table1, straight_line, year_values}
use Rattle.factors.proofs.Table.{tabulate_at}
use Rattle.factors.proofs.commutation.table_factor.Goals as goal

pub returns-in-636-to-875 : goal.returns-in-636-to-875
unfolding table1 straight_line year_values
returns-in-636-to-875 c =
    let k = c.args.age - 636 in
    tabulate_at straight_line 240 k (omega arith)
    ∙ sym (simp (table1, le-leb 636 c.args.age (omega arith), le-leb c.args.age 875 (omega arith)))
