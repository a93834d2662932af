-- `work_out` goes through the pensions one by one: those before were read, judged and summed, and have their rows where none is refused.
use Rattle.std.proofs.Common.{◌≡◌, length, refl, ◌∙◌, ap, arith}
use Rattle.std.proofs.Common.{nat_eq}
use Rattle.std.proofs.lemmas.Result.{err_from_is_err_and}
use Rattle.calendar.specs.Tests.{lowest}
use Rattle.refusals.specs.Numbers.{refusal_number}
use Rattle.refusals.proofs.NumbersLaws.{given}
use Rattle.split.specs.Conditions.{lower, pension_conditions}
use Rattle.split.specs.Working.{WorkedOut}
use Rattle.split.proofs.PensionsLoop.{gone_none, one_stored, one_passed, none_refused, gone_judged}
use Rattle.split.proofs.pensions.work_out.Goals as goal
use Rattle.split.proofs.pensions.work_out.Goals.{After-loop-row, After-lower_of-refused, After-is_ok, After-lower_of, then-is_ok-stated, else-is_ok-stated}

pub loop-row-init : goal.loop-row-init
loop-row-init c = record {
  start = c.requires.start;
  small = omega arith;
  gone = gone_none _ _ _ _ c.args.rows.now (rw c.of-basis.ensures at c.head_refusal-refused.ensures);
}

-- the refusal so far is the lower of that of the pensions before and this one's
judged : (c : After-lower_of-refused)
    → refusal_number c.lower_of-refused.result
    ≡ lower (refusal_number c.loop-row.refused) (lowest 3 (pension_conditions c.args.head c.read_pension-read.result.value))
judged c = rw c.of-basis.ensures at (c.lower_of-refused.ensures ∙ ap (lower (refusal_number c.loop-row.refused)) c.pension_refusal.ensures)

-- none is refused so far where its number is 0
told : (c : After-is_ok) → c.is_ok.result ≡ nat_eq (refusal_number c.lower_of-refused.result) 0
told c = c.is_ok.ensures.value ∙ given c.lower_of-refused.result

pub row_of-requires : goal.row_of-requires
row_of-requires c =
    rw c.of-basis.ensures
    (none_refused _ _ (refusal_number c.loop-row.refused) _ c.loop-row.stated _
    (judged ((goal.at.row_of-requires c).After-lower_of-refused)) refl
    (rw (← told ((goal.at.row_of-requires c).After-is_ok)) c.if-is_ok-stated.true))

pub loop-row-preserved : goal.loop-row-preserved
loop-row-preserved c =
    let l = c.loop-row in
    let read = c.read_pension-read in
    let judges = judged ((goal.at.loop-row-preserved c).After-lower_of-refused) in
    record {
      start = omega (arith, read.ensures.next, l.invariant.start);
      small = omega (arith, l.invariant.small);
      gone =
          elim c.if-is_ok-stated.branch [
            | then-is_ok-stated w ↦
                rw w.rows-is
                (one_stored l.invariant.gone read.result.value _ _ _ l.invariant.start read.ensures judges refl w.row_of.result
                (omega (arith, l.auto.rows, c.loop-row-test.true)) (rw c.of-basis.ensures at w.row_of.ensures))
            | else-is_ok-stated w ↦
                rw w.rows-is
                (one_passed l.invariant.gone read.result.value _ _ _ l.invariant.start read.ensures judges refl _
                (rw (← told ((goal.at.loop-row-preserved c).After-is_ok)) w.if-is_ok-stated.false))
          ];
    }

-- after the loop all were gone through
all : (c : After-loop-row) → c.loop-row.row-index ≡ length c.args.rows.now
all c = omega (arith, c.loop-row.auto.row-index-end, c.loop-row-test.false)

-- the refusal of the case is the lower of theirs and of the total's
ended : (c : After-lower_of)
    → WorkedOut c.args.head c.args.bytes.now (length c.args.rows.now) (refusal_number c.lower_of.result) c.loop-row.rows
ended c =
    let l = c.loop-row in
    gone_judged l.invariant.gone l.invariant.start (all ((goal.at.After-lower_of c).After-loop-row)) l.auto.rows _
    (c.lower_of.ensures ∙ ap (lower (refusal_number l.refused)) c.total_refusal.ensures)

pub returns-in_err-lower_of-clause-worked : goal.returns-in_err-lower_of-clause-worked
returns-in_err-lower_of-clause-worked c =
    let p = err_from_is_err_and c.from_residual.result c.from_residual.ensures.1 in
    rw (p.1, p.2) (rw c.in_err-lower_of.was at (ended ((goal.at.returns-in_err-lower_of-clause-worked c).After-lower_of)))

pub returns-clause-worked : goal.returns-clause-worked
returns-clause-worked c = rw c.in_ok-lower_of.was at (ended ((goal.at.returns-clause-worked c).After-lower_of))
