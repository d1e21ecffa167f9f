use Rattle.nr_model.specs.ValueRules.{by_size, copy_below, single}
use Rattle.nr_step.specs.Windows.{window}
use Rattle.nr_step.proofs.Asks.{begins_single, leads_single}
use Rattle.nr_step.proofs.moves.copy_top_below_two.Goals as goal

pub copy_one_below_sized-requires-clause-can : goal.copy_one_below_sized-requires-clause-can
copy_one_below_sized-requires-clause-can c =
    let can = c.requires.can in
    let w = window can.0 can.1 c.args.stack.now c.args.depth.now in
    let b = begins_single 0 (λ k. by_size 1 (copy_below 1 1 k) (single 2 (copy_below 1 2 k))) w can.2 in
    (can.0, can.1, b.1)

pub returns-clause-leads : goal.returns-clause-leads
returns-clause-leads c = λ h ls.
    let can = c.requires.can in
    let w = window can.0 can.1 c.args.stack.now c.args.depth.now in
    let b = begins_single 0 (λ k. by_size 1 (copy_below 1 1 k) (single 2 (copy_below 1 2 k))) w can.2 in
    leads_single 0 (λ k. by_size 1 (copy_below 1 1 k) (single 2 (copy_below 1 2 k))) (window h ls c.args.stack.now c.args.depth.now) (window h ls c.copy_one_below_sized.new.stack c.copy_one_below_sized.new.depth) b.0 (c.copy_one_below_sized.ensures.leads h ls)
