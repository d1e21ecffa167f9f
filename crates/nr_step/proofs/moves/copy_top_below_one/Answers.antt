use Rattle.nr_model.specs.ValueRules.{copy_below, single}
use Rattle.nr_step.specs.Windows.{window}
use Rattle.nr_step.proofs.Asks.{begins_single, in_use, leads_single}
use Rattle.nr_step.proofs.moves.copy_top_below_one.Goals as goal

pub copy_one_below_one-requires-clause-some : goal.copy_one_below_one-requires-clause-some
copy_one_below_one-requires-clause-some c =
    let can = c.requires.can in
    let w = window can.0 can.1 c.args.stack.now c.args.depth.now in
    let b = begins_single 0 (λ k. single 1 (copy_below 1 1 k)) w can.2 in
    let d = begins_single 1 (copy_below 1 1) w b.1 in
    in_use c.args.stack.now c.args.depth.now 1 _ d.0

pub returns-clause-leads : goal.returns-clause-leads
returns-clause-leads c = λ h ls.
    let can = c.requires.can in
    let w = window can.0 can.1 c.args.stack.now c.args.depth.now in
    let b = begins_single 0 (λ k. single 1 (copy_below 1 1 k)) w can.2 in
    let d = begins_single 1 (copy_below 1 1) w b.1 in
    leads_single 0 (λ k. single 1 (copy_below 1 1 k)) (window h ls c.args.stack.now c.args.depth.now) (window h ls c.copy_one_below_one.new.stack c.copy_one_below_one.new.depth) b.0 (leads_single 1 (copy_below 1 1) (window h ls c.args.stack.now c.args.depth.now) (window h ls c.copy_one_below_one.new.stack c.copy_one_below_one.new.depth) d.0 (c.copy_one_below_one.ensures.leads h ls))
