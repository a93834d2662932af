-- `take_turns` takes the turns of the definition `turns`: those left from here give what all give from the start.
use Rattle.std.proofs.Common.{◌≡◌, ◌-◌, length, map}
use Rattle.split.specs.Grant.{turns}
use Rattle.split.specs.Working.{allowance_by, row_in, before_turn}
use Rattle.split.proofs.grant.take_turns.Given as goal

abbrev pub invariant-loop : goal.invariant-loop
invariant-loop l = record {
  taken : turns (length l.fn.rows) (map row_in l.fn.rows) l.limit (allowance_by l.fn.allowance)
      ≡ turns (length l.fn.rows - l.counter) (map row_in l.rows) l.left (allowance_by l.rest);
  kept : map before_turn l.rows ≡ map before_turn l.fn.rows;
}
