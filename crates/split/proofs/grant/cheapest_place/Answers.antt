-- `cheapest_place` is the definition `cheapest`, from the last row back: `best` is the place in the rows from `i` on.
use Rattle.std.proofs.Common.{◌≡◌, ◌-◌, ◌≤◌, map, length, refl, sym, ◌∙◌}
use Rattle.std.proofs.Math.ListN.{length-map}
use Rattle.split.specs.Grant.{row_at}
use Rattle.split.specs.Working.{row_in}
use Rattle.split.proofs.GrantLoop.{Told, Found, price_at, waits_at, found_none, found_here, found_behind}
use Rattle.split.proofs.grant.cheapest_place.Goals as goal
use Rattle.split.proofs.grant.cheapest_place.Goals.{Joined-best, in-Some, in-None}

pub loop-i-init : goal.loop-i-init
loop-i-init c = rw (← length-map c.args.rows.now row_in) (found_none (map row_in c.args.rows.now))

-- what the row before `i` is told of `best`
told : (c : Joined-best) → Told (map row_in c.args.rows.now) c.loop-i.i c.match-best.best c.match-best.first
told c =
    let rows = map row_in c.args.rows.now in
    elim c.match-best.branch [
      | in-Some w ↦
          rw (w.best-is, w.first-is)
          (w.goes_first-first.ensures (row_at rows (c.loop-i.i - 1)) (row_at rows w.in-Some.place)
          (price_at c.args.rows.now (c.loop-i.i - 1)) (price_at c.args.rows.now w.in-Some.place))
      | in-None w ↦ rw (w.best-is ∙ w.in-None.is, w.first-is) refl
    ]

-- `best` stays until then
found : (c : Joined-best) → Found (map row_in c.args.rows.now) c.loop-i.i c.match-best.best
found c =
    let same : c.match-best.best ≡ c.loop-i.best =
    elim c.match-best.branch [ in-Some w ↦ w.best-is ∙ sym w.in-Some.is | in-None w ↦ w.best-is ]
    in rw same c.loop-i.invariant

-- the rows up to `i`
inside : (c : Joined-best) → c.loop-i.i ≤ length (map row_in c.args.rows.now)
inside c = rw (length-map c.args.rows.now row_in) c.loop-i.auto.i

pub loop-i-preserved-then-row-first : goal.loop-i-preserved-then-row-first
loop-i-preserved-then-row-first c =
    let d = (goal.at.loop-i-preserved-then-row-first c).Joined-best in
    found_here (map row_in c.args.rows.now) c.loop-i.i c.loop-i-test.true (inside d) _ _ (found d) (told d)
    (rw (waits_at c.args.rows.now (c.loop-i.i - 1)) c.if-row-first.true)

pub loop-i-preserved : goal.loop-i-preserved
loop-i-preserved c =
    let d = (goal.at.loop-i-preserved c).Joined-best in
    found_behind (map row_in c.args.rows.now) c.loop-i.i c.loop-i-test.true (inside d) _ _ (found d) (told d)
    (rw (waits_at c.args.rows.now (c.loop-i.i - 1)) c.if-row-first.false)
