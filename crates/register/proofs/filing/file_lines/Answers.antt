-- `file_lines` keeps that the lines passed have been filed (`Passed`), so that at the text's end all are.
use Rattle.std.specs.Prelude.{length, Ok}
use mathlib.Core.Path.{◌≡◌, refl, sym, ◌∙◌, ap}
use native.Mathlib.Omega.{arith}
use borrow.Author.Rules.{rules}
use Rattle.refusals.proofs.NumbersLaws.{number_positive}
use Rattle.register.specs.Answers.{Filed}
use Rattle.register.specs.Check.{following}
use Rattle.register.specs.Scan.{scanned_as, entered_as, lines_left}
use Rattle.register.proofs.TextLaws.{refusals_next, refusals_past}
use Rattle.register.proofs.FileLoop.{scan_known, same_refusal, granted_next, refused_next, passed_none, passed_few, passed_all, passed_next}
use Rattle.register.proofs.filing.file_lines.Goals as goal
use Rattle.register.proofs.filing.file_lines.Goals.{else-count-refusals, then-count-refusals, in-Ok, in_default}

pub loop-line-init : goal.loop-line-init
loop-line-init c = (refl, passed_none _ _ _ _ _ (scan_known c.scan-known.ensures) _ (search rules))

pub overflow_add-count : goal.overflow_add-count
overflow_add-count c =
    omega (arith, ap length c.in-Some.ensures.steps, passed_few c.loop-line.invariant.1)

pub loop-line-preserved : goal.loop-line-preserved
loop-line-preserved c =
    let filed = c.file_known-filed in
    let p = c.loop-line.invariant.1 in (
      search rules,
      passed_next p c.in-Some.line.now (lines_left c.next.new.self) c.in-Some.ensures.steps _ _ _ _ _ filed.ensures.bytes
          (elim c.match-filed.branch [
            | in-Ok w ↦
                let granted : filed.result ≡ Ok w.in-Ok.entered = w.in-Ok.is in
                let given = rw granted at filed.ensures.numbered in
                granted_next _ _ _ p.known _ filed.ensures.answered _ _ (ap (λ x. (entered_as x).refusal) granted)
                (w.filled-is ∙ ap (λ x. (entered_as x).used) (sym granted)) (ap (λ k. (scanned_as k).refusal) w.known-is)
                (ap (λ k. (scanned_as k).next) w.known-is ∙ ap following given)
            | in_default w ↦
                refused_next _ _ _ p.known _ filed.ensures.answered _ _
                (λ z. omega (arith, number_positive w.in_default.field-0, ap (λ x. (entered_as x).refusal) w.in_default.is)) w.filled-is
                (ap scanned_as w.known-is)
          ])
          (elim c.if-count-refusals.branch [
            | then-count-refusals w ↦ refusals_next _ _ _ p.given _ _ _ _ p.count (w.number_of.ensures ∙ same_refusal filed.result ∙ ap (λ (a : Filed). a.refusal) filed.ensures.answered) w.if-count-refusals.true
                w.refusals-is
            | else-count-refusals w ↦ refusals_past _ _ _ p.given _ _ _ p.count w.if-count-refusals.false w.refusals-is
          ])
          refl,
    )

pub returns : goal.returns
returns c = passed_all c.loop-line.invariant.1 c.in-None.ensures.steps.0
