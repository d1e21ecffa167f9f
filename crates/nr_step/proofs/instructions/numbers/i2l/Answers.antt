use Rattle.std.specs.Prelude.{length}
use Rattle.nr_model.specs.ValueRules.{conversion}
use Rattle.nr_step.specs.Windows.{window}
use Rattle.nr_step.proofs.NumberRules.{i2l_rule}
use Rattle.nr_step.proofs.Rows.{begin_by, go_on_by}
use Rattle.nr_step.proofs.instructions.numbers.i2l.Goals as goal

pub int_as_long-requires-clause-can : goal.int_as_long-requires-clause-can
int_as_long-requires-clause-can c =
    let can = c.requires.can in
    (can.3, can.4, begin_by can.0 can.1 c.args.i.now can.2 (window can.3 can.4 c.args.stack.now c.args.depth.now) (length c.args.stack.now) (conversion 133) (i2l_rule can.0 can.1 c.args.i.now can.2 c.requires.row) can.5)

pub returns-clause-went : goal.returns-clause-went
returns-clause-went c = λ told P own found h ls.
    go_on_by P own c.args.i.now found (window h ls c.args.stack.now c.args.depth.now) (window h ls c.int_as_long.new.stack c.int_as_long.new.depth) (conversion 133) (i2l_rule P own c.args.i.now found c.requires.row) (c.int_as_long.ensures.leads h ls)
