-- `take_turns` takes the turns of the definition `turns`: those left from here give what all give from the start.
use Rattle.std.proofs.Common.{ℕ, ◌≡◌, ◌*◌, ◌/◌, ◌≤◌, min, refl, sym, ◌∙◌, ap, map, length, get_or}
use Rattle.std.proofs.Math.ListN.{length-map}
use Rattle.std.proofs.Math.Nat.{sub-eq-zero_of_le}
use Rattle.std.proofs.Math.Seq.{map-set_same}
use mir.Facts.{Fits-le}
use Rattle.split.specs.Allowance.{allowed}
use Rattle.split.specs.Grant.{turns}
use Rattle.split.specs.Working.{allowance_by, no_row, row_in, before_turn}
use Rattle.split.proofs.ListLoop.{one_fewer}
use Rattle.split.proofs.GrantLoop.{turns_idle, price_kept, turn_taken, lump_affordable}
use Rattle.split.proofs.grant.take_turns.Goals as goal
use Rattle.split.proofs.grant.take_turns.Goals.{After-allowed_lump-lump}

-- what the turn gives
given : (c : After-allowed_lump-lump)
    → let row = get_or c.loop.rows c.in-Some.place no_row in
    c.allowed_lump-lump.result.0 ≡ allowed (allowance_by c.loop.rest) (min row.benefit.cap.0 (c.loop.left / row.price))
given c = c.allowed_lump-lump.ensures ∙ ap (allowed (allowance_by c.loop.rest)) c.most_of-most.ensures

-- what it costs is at most what is left
affordable : (c : After-allowed_lump-lump)
    → c.allowed_lump-lump.result.0 * (get_or c.loop.rows c.in-Some.place no_row).price ≤ c.loop.left
affordable c =
    lump_affordable c.loop.rows c.in-Some.place c.loop.left _ (allowance_by c.loop.rest) _ no_row c.in-Some.ensures.0 c.in-Some.ensures.1
    (given c) refl

pub most_of-most-requires : goal.most_of-most-requires
most_of-most-requires c =
    rw (price_kept c.loop.rows c.args.rows.now c.loop.invariant.kept c.in-Some.place)
    (c.requires _ no_row (rw (← c.loop.auto.rows) c.in-Some.ensures.0))

pub overflow_mul-spent : goal.overflow_mul-spent
overflow_mul-spent c = Fits-le (affordable ((goal.at.overflow_mul-spent c).After-allowed_lump-lump)) c.loop.auto.left-fits

pub overflow_sub-left : goal.overflow_sub-left
overflow_sub-left c = affordable ((goal.at.overflow_sub-left c).After-allowed_lump-lump)

pub loop-preserved : goal.loop-preserved
loop-preserved c = record {
  taken =
      c.loop.invariant.taken
      ∙ turn_taken c.loop.rows c.in-Some.place c.loop.left _ (allowance_by c.loop.rest) _ _ c.in-Some.ensures.0 c.in-Some.ensures.1
      (given ((goal.at.loop-preserved c).After-allowed_lump-lump)) c.after_lump-rest.ensures _ _
      (one_fewer c.loop.counter (length c.args.rows.now) c.loop-test.true) refl;
  kept = map-set_same before_turn c.loop.rows c.in-Some.place _ no_row refl ∙ c.loop.invariant.kept;
}

-- no row waits
pub returns-in_default-clause-taken : goal.returns-in_default-clause-taken
returns-in_default-clause-taken c =
    sym (c.loop.invariant.taken ∙ turns_idle _ _ _ _ (c.in_default.ensures ∙ sym (length-map c.loop.rows row_in)))

-- no turn is left
pub returns-clause-taken : goal.returns-clause-taken
unfolding turns
returns-clause-taken c =
    sym
    (c.loop.invariant.taken
    ∙ ap (λ (m : ℕ). turns m (map row_in c.loop.rows) c.loop.left (allowance_by c.loop.rest)) (sub-eq-zero_of_le c.loop-test.false))
