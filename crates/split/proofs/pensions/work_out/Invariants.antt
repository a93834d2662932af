-- `work_out` goes through the pensions one by one: those before were read, judged and summed, and have their rows where none is refused.
use Rattle.std.proofs.Common.{◌≡◌, ◌*◌, ◌≤◌}
use Rattle.refusals.specs.Numbers.{refusal_number}
use Rattle.split.specs.Case.{case_length}
use Rattle.split.proofs.PensionsLoop.{Gone}
use Rattle.split.proofs.pensions.work_out.Given as goal

abbrev pub invariant-loop-row : goal.invariant-loop-row
invariant-loop-row l = record {
  start : l.next.at ≡ case_length l.row-index;
  small : l.stated ≤ l.row-index * 4294967295;
  gone : Gone l.fn.head l.bytes l.row-index l.next.at (refusal_number l.refused) l.stated l.rows;
}
