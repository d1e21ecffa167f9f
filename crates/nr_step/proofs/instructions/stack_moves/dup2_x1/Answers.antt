use Rattle.std.proofs.Common.{length}
use Rattle.nr_model.specs.ValueRules.{dup2_x1}
use Rattle.nr_step.specs.Windows.{window}
use Rattle.nr_step.proofs.StackMoves.{dup2_x1_rule, long_dup2_x1, long_dup2_x1_leaves, short_dup2_x1, short_dup2_x1_leaves, sized_fits}
use Rattle.nr_step.proofs.Rows.{begin_by, go_on_by}
use Rattle.nr_step.proofs.instructions.stack_moves.dup2_x1.Goals as goal

pub copy_top_two_below_one-requires-clause-room : goal.copy_top_two_below_one-requires-clause-room
copy_top_two_below_one-requires-clause-room c =
    let can = c.requires.can in
    sized_fits can.0 can.1 c.args.i.now can.2 can.3 can.4 c.args.stack.now c.args.depth.now long_dup2_x1 short_dup2_x1 (dup2_x1_rule can.0 can.1 c.args.i.now can.2 c.requires.row) long_dup2_x1_leaves short_dup2_x1_leaves can.5

pub copy_top_two_below_one-requires-clause-can : goal.copy_top_two_below_one-requires-clause-can
copy_top_two_below_one-requires-clause-can c =
    let can = c.requires.can in
    (can.3, can.4, begin_by can.0 can.1 c.args.i.now can.2 (window can.3 can.4 c.args.stack.now c.args.depth.now) (length c.args.stack.now) dup2_x1 (dup2_x1_rule can.0 can.1 c.args.i.now can.2 c.requires.row) can.5)

pub returns-clause-went : goal.returns-clause-went
returns-clause-went c = λ told P own found h ls.
    go_on_by P own c.args.i.now found (window h ls c.args.stack.now c.args.depth.now) (window h ls c.copy_top_two_below_one.new.stack c.copy_top_two_below_one.new.depth) dup2_x1 (dup2_x1_rule P own c.args.i.now found c.requires.row) (c.copy_top_two_below_one.ensures.leads h ls)
