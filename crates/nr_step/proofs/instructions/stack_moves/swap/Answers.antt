use Rattle.std.proofs.Common.{length}
use Rattle.nr_model.specs.ValueRules.{swap}
use Rattle.nr_step.specs.Windows.{window}
use Rattle.nr_step.proofs.StackMoves.{swap_rule}
use Rattle.nr_step.proofs.Rows.{begin_by, go_on_by}
use Rattle.nr_step.proofs.instructions.stack_moves.swap.Goals as goal

pub swap_two-requires-clause-can : goal.swap_two-requires-clause-can
swap_two-requires-clause-can c =
    let can = c.requires.can in
    (can.3, can.4, begin_by can.0 can.1 c.args.i.now can.2 (window can.3 can.4 c.args.stack.now c.args.depth.now) (length c.args.stack.now) swap (swap_rule can.0 can.1 c.args.i.now can.2 c.requires.row) can.5)

pub returns-clause-went : goal.returns-clause-went
returns-clause-went c = λ told P own found h ls.
    go_on_by P own c.args.i.now found (window h ls c.args.stack.now c.args.depth.now) (window h ls c.swap_two.new.stack c.swap_two.new.depth) swap (swap_rule P own c.args.i.now found c.requires.row) (c.swap_two.ensures.leads h ls)
