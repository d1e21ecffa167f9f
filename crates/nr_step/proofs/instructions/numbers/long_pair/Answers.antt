use Rattle.std.specs.Prelude.{length}
use Rattle.nr_model.specs.ValueRules.{two_operands}
use Rattle.nr_step.specs.Windows.{window}
use Rattle.nr_step.proofs.NumberRules.{long_pair_rule}
use Rattle.nr_step.proofs.Rows.{begin_by, go_on_by}
use Rattle.nr_step.proofs.instructions.numbers.long_pair.Goals as goal

pub two_longs-requires-clause-can : goal.two_longs-requires-clause-can
two_longs-requires-clause-can c =
    let can = c.requires.can in
    (can.3, can.4, begin_by can.0 can.1 c.args.i.now can.2 (window can.3 can.4 c.args.stack.now c.args.depth.now) (length c.args.stack.now) (two_operands c.args.code) (long_pair_rule can.0 can.1 c.args.i.now can.2 c.args.code c.requires.row c.requires.code) can.5)

pub returns-clause-went : goal.returns-clause-went
returns-clause-went c = λ told P own found h ls.
    go_on_by P own c.args.i.now found (window h ls c.args.stack.now c.args.depth.now) (window h ls c.two_longs.new.stack c.two_longs.new.depth) (two_operands c.args.code) (long_pair_rule P own c.args.i.now found c.args.code c.requires.row c.requires.code) (c.two_longs.ensures.leads h ls)
