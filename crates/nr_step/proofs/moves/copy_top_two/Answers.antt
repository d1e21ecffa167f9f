use Rattle.std.proofs.Common.{arith, false, true}
use Rattle.std.specs.Prelude.{length, slice_get}
use Rattle.nr_model.specs.Scripts.{Pick}
use Rattle.nr_model.specs.ValueRules.{again, single}
use Rattle.nr_step.specs.Windows.{top_first, window}
use Rattle.nr_step.proofs.Asks.{begins_by, begins_single, begins_sized, in_use, leads_by, leads_single, room_by}
use Rattle.nr_step.proofs.moves.copy_top_two.Goals as goal

pub is_long_at-requires-clause-some : goal.is_long_at-requires-clause-some
is_long_at-requires-clause-some c =
    let can = c.requires.can in
    let w = window can.0 can.1 c.args.stack.now c.args.depth.now in
    in_use c.args.stack.now c.args.depth.now 0 _ (begins_sized 0 (Pick 0) (λ k. single 1 (again 2 k)) w can.2)

pub copy_one-requires-clause-some : goal.copy_one-requires-clause-some
copy_one-requires-clause-some c =
    let can = c.requires.can in
    let w = window can.0 can.1 c.args.stack.now c.args.depth.now in
    in_use c.args.stack.now c.args.depth.now 0 _ (begins_sized 0 (Pick 0) (λ k. single 1 (again 2 k)) w can.2)

pub copy_one-requires-clause-room : goal.copy_one-requires-clause-room
copy_one-requires-clause-room c =
    omega (arith, room_by (slice_get (top_first c.args.stack.now c.args.depth.now) 0) c.args.depth.now (length c.args.stack.now) c.is_long_at.result true c.requires.room c.is_long_at.ensures c.if-is_long_at.true)

pub copy_two-requires-clause-some : goal.copy_two-requires-clause-some
copy_two-requires-clause-some c =
    let can = c.requires.can in
    let w = window can.0 can.1 c.args.stack.now c.args.depth.now in
    let s = begins_single 1 (again 2) w (begins_by 0 (Pick 0) (λ k. single 1 (again 2 k)) w c.is_long_at.result false c.is_long_at.ensures c.if-is_long_at.false can.2) in
    in_use c.args.stack.now c.args.depth.now 1 _ s.0

pub copy_two-requires-clause-room : goal.copy_two-requires-clause-room
copy_two-requires-clause-room c =
    room_by (slice_get (top_first c.args.stack.now c.args.depth.now) 0) c.args.depth.now (length c.args.stack.now) c.is_long_at.result false c.requires.room c.is_long_at.ensures c.if-is_long_at.false

pub returns-then-is_long_at-clause-leads : goal.returns-then-is_long_at-clause-leads
returns-then-is_long_at-clause-leads c = λ h ls.
    leads_by 0 (Pick 0) (λ k. single 1 (again 2 k)) (window h ls c.args.stack.now c.args.depth.now) (window h ls c.copy_one.new.stack c.copy_one.new.depth) c.is_long_at.result true c.is_long_at.ensures c.if-is_long_at.true (c.copy_one.ensures.leads h ls)

pub returns-else-is_long_at-clause-leads : goal.returns-else-is_long_at-clause-leads
returns-else-is_long_at-clause-leads c = λ h ls.
    let can = c.requires.can in
    let w = window can.0 can.1 c.args.stack.now c.args.depth.now in
    let s = begins_single 1 (again 2) w (begins_by 0 (Pick 0) (λ k. single 1 (again 2 k)) w c.is_long_at.result false c.is_long_at.ensures c.if-is_long_at.false can.2) in
    leads_by 0 (Pick 0) (λ k. single 1 (again 2 k)) (window h ls c.args.stack.now c.args.depth.now) (window h ls c.copy_two.new.stack c.copy_two.new.depth) c.is_long_at.result false c.is_long_at.ensures c.if-is_long_at.false (leads_single 1 (again 2) (window h ls c.args.stack.now c.args.depth.now) (window h ls c.copy_two.new.stack c.copy_two.new.depth) s.0 (c.copy_two.ensures.leads h ls))
