use Rattle.nr_model.specs.Scripts.{Drop}
use Rattle.nr_step.specs.Windows.{window}
use Rattle.nr_step.proofs.Asks.{begins_single, in_use, leads_single}
use Rattle.nr_step.proofs.moves.drop_one.Goals as goal

pub take_one-requires-clause-some : goal.take_one-requires-clause-some
take_one-requires-clause-some c =
    let can = c.requires.can in
    let w = window can.0 can.1 c.args.stack.now c.args.depth.now in
    let b = begins_single 0 (Drop 0) w can.2 in
    in_use c.args.stack.now c.args.depth.now 0 _ b.0

pub returns-clause-leads : goal.returns-clause-leads
returns-clause-leads c = λ h ls.
    let can = c.requires.can in
    let w = window can.0 can.1 c.args.stack.now c.args.depth.now in
    let b = begins_single 0 (Drop 0) w can.2 in
    leads_single 0 (Drop 0) (window h ls c.args.stack.now c.args.depth.now) (window h ls c.args.stack.now c.take_one.new.depth) b.0 (c.take_one.ensures.leads h ls)
