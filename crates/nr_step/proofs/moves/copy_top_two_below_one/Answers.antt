use Rattle.std.proofs.Common.{arith, false, true}
use Rattle.std.specs.Prelude.{length, slice_get}
use Rattle.nr_model.specs.ValueRules.{copy_below, single}
use Rattle.nr_step.specs.Windows.{top_first, window}
use Rattle.nr_step.proofs.Asks.{begins_by, begins_single, begins_sized, in_use, leads_by, leads_single, room_by}
use Rattle.nr_step.proofs.moves.copy_top_two_below_one.Goals as goal

pub is_long_at-requires-clause-some : goal.is_long_at-requires-clause-some
is_long_at-requires-clause-some c =
    let can = c.requires.can in
    let w = window can.0 can.1 c.args.stack.now c.args.depth.now in
    in_use c.args.stack.now c.args.depth.now 0 _ (begins_sized 0 (λ k. single 1 (copy_below 1 1 k)) (λ k. single 1 (single 2 (copy_below 2 1 k))) w can.2)

pub copy_one_below_one-requires-clause-some : goal.copy_one_below_one-requires-clause-some
copy_one_below_one-requires-clause-some c =
    let can = c.requires.can in
    let w = window can.0 can.1 c.args.stack.now c.args.depth.now in
    let t = begins_single 1 (copy_below 1 1) w (begins_by 0 (λ k. single 1 (copy_below 1 1 k)) (λ k. single 1 (single 2 (copy_below 2 1 k))) w c.is_long_at.result true c.is_long_at.ensures c.if-is_long_at.true can.2) in
    in_use c.args.stack.now c.args.depth.now 1 _ t.0

pub copy_one_below_one-requires-clause-room : goal.copy_one_below_one-requires-clause-room
copy_one_below_one-requires-clause-room c =
    omega (arith, room_by (slice_get (top_first c.args.stack.now c.args.depth.now) 0) c.args.depth.now (length c.args.stack.now) c.is_long_at.result true c.requires.room c.is_long_at.ensures c.if-is_long_at.true)

pub copy_two_below_one-requires-clause-some : goal.copy_two_below_one-requires-clause-some
copy_two_below_one-requires-clause-some c =
    let can = c.requires.can in
    let w = window can.0 can.1 c.args.stack.now c.args.depth.now in
    let s = begins_single 1 (λ k. single 2 (copy_below 2 1 k)) w (begins_by 0 (λ k. single 1 (copy_below 1 1 k)) (λ k. single 1 (single 2 (copy_below 2 1 k))) w c.is_long_at.result false c.is_long_at.ensures c.if-is_long_at.false can.2) in
    let d = begins_single 2 (copy_below 2 1) w s.1 in
    in_use c.args.stack.now c.args.depth.now 2 _ d.0

pub copy_two_below_one-requires-clause-room : goal.copy_two_below_one-requires-clause-room
copy_two_below_one-requires-clause-room c =
    room_by (slice_get (top_first c.args.stack.now c.args.depth.now) 0) c.args.depth.now (length c.args.stack.now) c.is_long_at.result false c.requires.room c.is_long_at.ensures c.if-is_long_at.false

pub returns-then-is_long_at-clause-leads : goal.returns-then-is_long_at-clause-leads
returns-then-is_long_at-clause-leads c = λ h ls.
    let can = c.requires.can in
    let w = window can.0 can.1 c.args.stack.now c.args.depth.now in
    let t = begins_single 1 (copy_below 1 1) w (begins_by 0 (λ k. single 1 (copy_below 1 1 k)) (λ k. single 1 (single 2 (copy_below 2 1 k))) w c.is_long_at.result true c.is_long_at.ensures c.if-is_long_at.true can.2) in
    leads_by 0 (λ k. single 1 (copy_below 1 1 k)) (λ k. single 1 (single 2 (copy_below 2 1 k))) (window h ls c.args.stack.now c.args.depth.now) (window h ls c.copy_one_below_one.new.stack c.copy_one_below_one.new.depth) c.is_long_at.result true c.is_long_at.ensures c.if-is_long_at.true (leads_single 1 (copy_below 1 1) (window h ls c.args.stack.now c.args.depth.now) (window h ls c.copy_one_below_one.new.stack c.copy_one_below_one.new.depth) t.0 (c.copy_one_below_one.ensures.leads h ls))

pub returns-else-is_long_at-clause-leads : goal.returns-else-is_long_at-clause-leads
returns-else-is_long_at-clause-leads c = λ h ls.
    let can = c.requires.can in
    let w = window can.0 can.1 c.args.stack.now c.args.depth.now in
    let s = begins_single 1 (λ k. single 2 (copy_below 2 1 k)) w (begins_by 0 (λ k. single 1 (copy_below 1 1 k)) (λ k. single 1 (single 2 (copy_below 2 1 k))) w c.is_long_at.result false c.is_long_at.ensures c.if-is_long_at.false can.2) in
    let d = begins_single 2 (copy_below 2 1) w s.1 in
    leads_by 0 (λ k. single 1 (copy_below 1 1 k)) (λ k. single 1 (single 2 (copy_below 2 1 k))) (window h ls c.args.stack.now c.args.depth.now) (window h ls c.copy_two_below_one.new.stack c.copy_two_below_one.new.depth) c.is_long_at.result false c.is_long_at.ensures c.if-is_long_at.false (leads_single 1 (λ k. single 2 (copy_below 2 1 k)) (window h ls c.args.stack.now c.args.depth.now) (window h ls c.copy_two_below_one.new.stack c.copy_two_below_one.new.depth) s.0 (leads_single 2 (copy_below 2 1) (window h ls c.args.stack.now c.args.depth.now) (window h ls c.copy_two_below_one.new.stack c.copy_two_below_one.new.depth) d.0 (c.copy_two_below_one.ensures.leads h ls)))
