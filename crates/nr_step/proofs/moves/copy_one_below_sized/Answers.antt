use Rattle.std.proofs.Common.{false, true}
use Rattle.nr_model.specs.ValueRules.{copy_below, single}
use Rattle.nr_step.specs.Windows.{window}
use Rattle.nr_step.proofs.Asks.{begins_by, begins_single, begins_sized, in_use, leads_by, leads_single}
use Rattle.nr_step.proofs.moves.copy_one_below_sized.Goals as goal

pub is_long_at-requires-clause-some : goal.is_long_at-requires-clause-some
is_long_at-requires-clause-some c =
    let can = c.requires.can in
    let w = window can.0 can.1 c.args.stack.now c.args.depth.now in
    in_use c.args.stack.now c.args.depth.now 1 _ (begins_sized 1 (copy_below 1 1) (λ k. single 2 (copy_below 1 2 k)) w can.2)

pub copy_one_below_one-requires-clause-some : goal.copy_one_below_one-requires-clause-some
copy_one_below_one-requires-clause-some c =
    let can = c.requires.can in
    let w = window can.0 can.1 c.args.stack.now c.args.depth.now in
    in_use c.args.stack.now c.args.depth.now 1 _ (begins_sized 1 (copy_below 1 1) (λ k. single 2 (copy_below 1 2 k)) w can.2)

pub copy_one_below_two-requires-clause-some : goal.copy_one_below_two-requires-clause-some
copy_one_below_two-requires-clause-some c =
    let can = c.requires.can in
    let w = window can.0 can.1 c.args.stack.now c.args.depth.now in
    let s = begins_single 2 (copy_below 1 2) w (begins_by 1 (copy_below 1 1) (λ k. single 2 (copy_below 1 2 k)) w c.is_long_at.result false c.is_long_at.ensures c.if-is_long_at.false can.2) in
    in_use c.args.stack.now c.args.depth.now 2 _ s.0

pub returns-then-is_long_at-clause-leads : goal.returns-then-is_long_at-clause-leads
returns-then-is_long_at-clause-leads c = λ h ls.
    leads_by 1 (copy_below 1 1) (λ k. single 2 (copy_below 1 2 k)) (window h ls c.args.stack.now c.args.depth.now) (window h ls c.copy_one_below_one.new.stack c.copy_one_below_one.new.depth) c.is_long_at.result true c.is_long_at.ensures c.if-is_long_at.true (c.copy_one_below_one.ensures.leads h ls)

pub returns-else-is_long_at-clause-leads : goal.returns-else-is_long_at-clause-leads
returns-else-is_long_at-clause-leads c = λ h ls.
    let can = c.requires.can in
    let w = window can.0 can.1 c.args.stack.now c.args.depth.now in
    let s = begins_single 2 (copy_below 1 2) w (begins_by 1 (copy_below 1 1) (λ k. single 2 (copy_below 1 2 k)) w c.is_long_at.result false c.is_long_at.ensures c.if-is_long_at.false can.2) in
    leads_by 1 (copy_below 1 1) (λ k. single 2 (copy_below 1 2 k)) (window h ls c.args.stack.now c.args.depth.now) (window h ls c.copy_one_below_two.new.stack c.copy_one_below_two.new.depth) c.is_long_at.result false c.is_long_at.ensures c.if-is_long_at.false (leads_single 2 (copy_below 1 2) (window h ls c.args.stack.now c.args.depth.now) (window h ls c.copy_one_below_two.new.stack c.copy_one_below_two.new.depth) s.0 (c.copy_one_below_two.ensures.leads h ls))
