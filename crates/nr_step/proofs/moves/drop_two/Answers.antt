use Rattle.std.proofs.Common.{false, true}
use Rattle.nr_model.specs.Scripts.{Drop}
use Rattle.nr_model.specs.ValueRules.{forget, single}
use Rattle.nr_step.specs.Windows.{window}
use Rattle.nr_step.proofs.Asks.{begins_by, begins_single, begins_sized, in_use, leads_by, leads_single}
use Rattle.nr_step.proofs.moves.drop_two.Goals as goal

pub is_long_at-requires-clause-some : goal.is_long_at-requires-clause-some
is_long_at-requires-clause-some c =
    let can = c.requires.can in
    let w = window can.0 can.1 c.args.stack.now c.args.depth.now in
    in_use c.args.stack.now c.args.depth.now 0 _ (begins_sized 0 (Drop 0) (λ k. single 1 (forget 0 2 k)) w can.2)

pub take_one-requires-clause-some : goal.take_one-requires-clause-some
take_one-requires-clause-some c =
    let can = c.requires.can in
    let w = window can.0 can.1 c.args.stack.now c.args.depth.now in
    in_use c.args.stack.now c.args.depth.now 0 _ (begins_sized 0 (Drop 0) (λ k. single 1 (forget 0 2 k)) w can.2)

pub take_two-requires-clause-some : goal.take_two-requires-clause-some
take_two-requires-clause-some c =
    let can = c.requires.can in
    let w = window can.0 can.1 c.args.stack.now c.args.depth.now in
    let s = begins_single 1 (forget 0 2) w (begins_by 0 (Drop 0) (λ k. single 1 (forget 0 2 k)) w c.is_long_at.result false c.is_long_at.ensures c.if-is_long_at.false can.2) in
    in_use c.args.stack.now c.args.depth.now 1 _ s.0

pub returns-then-is_long_at-clause-leads : goal.returns-then-is_long_at-clause-leads
returns-then-is_long_at-clause-leads c = λ h ls.
    leads_by 0 (Drop 0) (λ k. single 1 (forget 0 2 k)) (window h ls c.args.stack.now c.args.depth.now) (window h ls c.args.stack.now c.take_one.new.depth) c.is_long_at.result true c.is_long_at.ensures c.if-is_long_at.true (c.take_one.ensures.leads h ls)

pub returns-else-is_long_at-clause-leads : goal.returns-else-is_long_at-clause-leads
returns-else-is_long_at-clause-leads c = λ h ls.
    let can = c.requires.can in
    let w = window can.0 can.1 c.args.stack.now c.args.depth.now in
    let s = begins_single 1 (forget 0 2) w (begins_by 0 (Drop 0) (λ k. single 1 (forget 0 2 k)) w c.is_long_at.result false c.is_long_at.ensures c.if-is_long_at.false can.2) in
    leads_by 0 (Drop 0) (λ k. single 1 (forget 0 2 k)) (window h ls c.args.stack.now c.args.depth.now) (window h ls c.args.stack.now c.take_two.new.depth) c.is_long_at.result false c.is_long_at.ensures c.if-is_long_at.false (leads_single 1 (forget 0 2) (window h ls c.args.stack.now c.args.depth.now) (window h ls c.args.stack.now c.take_two.new.depth) s.0 (c.take_two.ensures.leads h ls))
