use Rattle.std.specs.Prelude.{length}
use Rattle.nr_model.specs.ValueRules.{conversion}
use Rattle.nr_step.specs.Windows.{window}
use Rattle.nr_step.proofs.NumberRules.{l2i_rule}
use Rattle.nr_step.proofs.Rows.{begin_by, go_on_by}
use Rattle.nr_step.proofs.instructions.numbers.l2i.Goals as goal

pub long_as_int-requires-clause-can : goal.long_as_int-requires-clause-can
long_as_int-requires-clause-can c =
    let can = c.requires.can in
    (can.3, can.4, begin_by can.0 can.1 c.args.i.now can.2 (window can.3 can.4 c.args.stack.now c.args.depth.now) (length c.args.stack.now) (conversion 136) (l2i_rule can.0 can.1 c.args.i.now can.2 c.requires.row) can.5)

pub returns-clause-went : goal.returns-clause-went
returns-clause-went c = λ told P own found h ls.
    go_on_by P own c.args.i.now found (window h ls c.args.stack.now c.args.depth.now) (window h ls c.long_as_int.new.stack c.long_as_int.new.depth) (conversion 136) (l2i_rule P own c.args.i.now found c.requires.row) (c.long_as_int.ensures.leads h ls)
