-- `case_quote` is the definition `case_quote` of the pensions that were worked out and the amount that was read behind them: what
-- each callee asks holds of an accepted case, and their promises compose.
use Rattle.std.proofs.Common.{ℕ, ◌≡◌, map, sym, ◌∙◌, ap, subst, arith, refl}
use Rattle.std.proofs.lemmas.List.{length-take-le}
use Rattle.std.proofs.lemmas.Result.{err_from_is_err_and}
use Rattle.refusals.specs.Numbers.{number}
use Rattle.refusals.proofs.NumbersLaws.{number_some}
use Rattle.split.specs.Allowance.{Allowance}
use Rattle.split.specs.Benefits.{benefits_of}
use Rattle.split.specs.Bytes.{FieldOf}
use Rattle.split.specs.Case.{allowance_used_at, case_length}
use Rattle.split.specs.Allowance.{allowance_of}
use Rattle.split.specs.Grant.{lumps_of, grant}
use Rattle.split.specs.Working.{WorkedOut, row_of, row_in}
use Rattle.split.proofs.Accepted.{Accepted, case_accepted}
use Rattle.split.proofs.ReadingLaws.{RightLength, length_listed}
use Rattle.split.proofs.Granted.{pensions_small, price_positive, rows_kept, grant_worked, lumps_granted_small, rows_range, quote_made, case_refused, case_granted}
use Rattle.split.proofs.quoting.case_quote.Goals as goal
use Rattle.split.proofs.quoting.case_quote.Goals.{After-grant_of, After-read_allowance_used-used, In_ok-next, Start}

-- the length is a right one
listed : (c : Start) → RightLength c.args.characters c.args.head.value.count
listed c = length_listed _ _ c.requires.1

pub slice_bounds-places-end : goal.slice_bounds-places-end
slice_bounds-places-end c = (listed ((goal.at.slice_bounds-places-end c).Start)).counted.1

pub slice_bounds-rows-end : goal.slice_bounds-rows-end
slice_bounds-rows-end c = sym (length-take-le c.args.head.value.count _ (listed ((goal.at.slice_bounds-rows-end c).Start)).counted.1)

pub returns-in_err-next : goal.returns-in_err-next
returns-in_err-next c =
    let p = err_from_is_err_and c.from_residual.result c.from_residual.ensures.1 in
    let w = subst (λ (m : ℕ). WorkedOut c.args.head.value c.args.bytes.now m (number c.in_err-next.field-0.0) c.work_out.new.rows)
    (length-take-le c.args.head.value.count _ (listed ((goal.at.returns-in_err-next c).Start)).counted.1) c.in_err-next.ensures.worked in
    rw (p.1, p.2) (case_refused w _ (listed ((goal.at.returns-in_err-next c).Start)).long _ (number_some c.in_err-next.field-0.0) refl)

-- past the `?` n pensions were worked out
worked : (c : In_ok-next) → WorkedOut c.args.head.value c.args.bytes.now c.args.head.value.count 0 c.work_out.new.rows
worked c =
    subst (λ (m : ℕ). WorkedOut c.args.head.value c.args.bytes.now m 0 c.work_out.new.rows)
    (length-take-le c.args.head.value.count _ (listed ((goal.at.In_ok-next c).Start)).counted.1) c.in_ok-next.ensures.worked

-- and the cursor stands behind them
behind : (c : In_ok-next) → c.in_ok-next.next.at ≡ case_length c.args.head.value.count
behind c =
    c.in_ok-next.ensures.behind
    ∙ ap case_length (length-take-le c.args.head.value.count _ (listed ((goal.at.In_ok-next c).Start)).counted.1)

-- the case is accepted, and its pensions have their rows
accepted : (c : In_ok-next) → Accepted c.args.head.value (worked c).pensions
accepted c = case_accepted _ _ (sym (worked c).judged)

made : (c : In_ok-next) → c.work_out.new.rows ≡ map (row_of c.args.head.value) (worked c).pensions
made c = (worked c).made refl

pub read_allowance_used-used-requires : goal.read_allowance_used-used-requires
read_allowance_used-used-requires c =
    let l = listed ((goal.at.read_allowance_used-used-requires c).Start) in
    let b = behind ((goal.at.read_allowance_used-used-requires c).In_ok-next) in
    (λ more. omega (arith, b, l.field (omega (arith, b))), omega (arith, l.short, l.counted))

-- what was read behind the pensions
used : (c : After-read_allowance_used-used)
    → FieldOf c.args.bytes.now c.args.characters c.read_allowance_used-used.result.0
    (λ s. allowance_used_at s (case_length c.args.head.value.count) c.args.characters)
used c s bytes within =
    c.read_allowance_used-used.ensures s bytes within
    ∙ ap (λ (at : ℕ). allowance_used_at s at c.args.characters) (behind ((goal.at.After-read_allowance_used-used c).In_ok-next))

pub grant_of-requires-clause-small : goal.grant_of-requires-clause-small
grant_of-requires-clause-small c =
    let e = (goal.at.grant_of-requires-clause-small c).In_ok-next in
    pensions_small _ _ _ (made e) (accepted e)

pub grant_of-requires-clause-priced : goal.grant_of-requires-clause-priced
grant_of-requires-clause-priced c =
    let e = (goal.at.grant_of-requires-clause-priced c).In_ok-next in
    price_positive _ _ _ (made e)

pub total_of-requires : goal.total_of-requires
total_of-requires c =
    let e = (goal.at.total_of-requires c).In_ok-next in
    lumps_granted_small _ _ _ (made e) _ _ c.grant_of.ensures.taken c.grant_of.ensures.kept (accepted e)

pub shares_of-requires-clause-ranges : goal.shares_of-requires-clause-ranges
shares_of-requires-clause-ranges c =
    let e = (goal.at.shares_of-requires-clause-ranges c).In_ok-next in
    rows_range _ _ _ (made e) _ _ c.grant_of.ensures.taken c.grant_of.ensures.kept (accepted e)

-- the lumps are those of the grant
granted : (c : After-grant_of)
    → lumps_of (map row_in c.grant_of.new.rows)
    ≡ grant (allowance_of c.args.head.value.commencement c.read_allowance_used-used.result.0)
    (benefits_of c.args.head.value (worked ((goal.at.After-grant_of c).In_ok-next)).pensions)
granted c =
    let ps = (worked ((goal.at.After-grant_of c).In_ok-next)).pensions in
    grant_worked _ _ _ (made ((goal.at.After-grant_of c).In_ok-next)) _ _ c.grant_of.ensures.taken c.grant_of.ensures.kept
    ∙ ap (λ (a : Allowance). grant a (benefits_of c.args.head.value ps)) c.allowance_of-allowance.ensures

pub returns : goal.returns
returns c =
    let w = worked ((goal.at.returns c).In_ok-next) in
    let kept = rows_kept _ _ _ (made ((goal.at.returns c).In_ok-next)) _ _ c.grant_of.ensures.taken c.grant_of.ensures.kept in
    case_granted w _ (listed ((goal.at.returns c).Start)).long _ _ refl
    (used ((goal.at.returns c).After-read_allowance_used-used))
    (quote_made _ w.pensions _ _ _ _ kept (granted ((goal.at.returns c).After-grant_of)) c.total_of.ensures
    c.shares_of.ensures)
