use Rattle.nr_model.specs.Scripts.{Pick}
use Rattle.nr_step.specs.Windows.{window}
use Rattle.nr_step.proofs.Asks.{begins_single, in_use, leads_single}
use Rattle.nr_step.proofs.moves.copy_top.Goals as goal

pub copy_one-requires-clause-some : goal.copy_one-requires-clause-some
copy_one-requires-clause-some c =
    let can = c.requires.can in
    in_use c.args.stack.now c.args.depth.now 0 _ (begins_single 0 (Pick 0) (window can.0 can.1 c.args.stack.now c.args.depth.now) can.2).0

pub returns-clause-leads : goal.returns-clause-leads
returns-clause-leads c = λ h ls.
    let can = c.requires.can in
    leads_single 0 (Pick 0) (window h ls c.args.stack.now c.args.depth.now) (window h ls c.copy_one.new.stack c.copy_one.new.depth)
    (begins_single 0 (Pick 0) (window can.0 can.1 c.args.stack.now c.args.depth.now) can.2).0 (c.copy_one.ensures.leads h ls)
