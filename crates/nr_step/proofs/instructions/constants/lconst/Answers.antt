use Rattle.std.proofs.Common.{arith}
use Rattle.nr_prog.specs.declared.body.instruction.Args.TheVariants as args
use Rattle.nr_model.specs.ValueRules.{small_constant}
use Rattle.nr_step.specs.Windows.{window}
use Rattle.nr_step.proofs.ConstantRules.{push_fits, small_pushed, small_rule}
use Rattle.nr_step.proofs.Rows.{go_on_by}
use Rattle.nr_step.proofs.instructions.constants.lconst.Goals as goal

pub small_long-requires-clause-room : goal.small_long-requires-clause-room
small_long-requires-clause-room c =
    let can = c.requires.can in
    push_fits can.0 can.1 c.args.i.now can.2 can.3 can.4 c.args.stack.now c.args.depth.now (small_constant c.args.code args.Empty) (small_rule can.0 can.1 c.args.i.now can.2 c.args.code c.requires.row (omega (arith, c.requires.low)) c.requires.high c.requires.shaped)
    (small_pushed c.args.code (window can.3 can.4 c.args.stack.now c.args.depth.now)) can.5

pub returns-clause-went : goal.returns-clause-went
returns-clause-went c = λ told P own found h ls.
    go_on_by P own c.args.i.now found (window h ls c.args.stack.now c.args.depth.now) (window h ls c.small_long.new.stack c.small_long.new.depth) (small_constant c.args.code args.Empty) (small_rule P own c.args.i.now found c.args.code c.requires.row (omega (arith, c.requires.low)) c.requires.high c.requires.shaped) (c.small_long.ensures.leads h ls)
