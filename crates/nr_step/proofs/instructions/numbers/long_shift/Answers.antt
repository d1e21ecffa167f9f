use Rattle.std.specs.Prelude.{length}
use Rattle.nr_model.specs.ValueRules.{shift}
use Rattle.nr_step.specs.Windows.{window}
use Rattle.nr_step.proofs.NumberRules.{long_shift_rule}
use Rattle.nr_step.proofs.Rows.{begin_by, go_on_by}
use Rattle.nr_step.proofs.instructions.numbers.long_shift.Goals as goal

pub shifted_long-requires-clause-can : goal.shifted_long-requires-clause-can
shifted_long-requires-clause-can c =
    let can = c.requires.can in
    (can.3, can.4, begin_by can.0 can.1 c.args.i.now can.2 (window can.3 can.4 c.args.stack.now c.args.depth.now) (length c.args.stack.now) (shift c.args.code) (long_shift_rule can.0 can.1 c.args.i.now can.2 c.args.code c.requires.row c.requires.code) can.5)

pub returns-clause-went : goal.returns-clause-went
returns-clause-went c = λ told P own found h ls.
    go_on_by P own c.args.i.now found (window h ls c.args.stack.now c.args.depth.now) (window h ls c.shifted_long.new.stack c.shifted_long.new.depth) (shift c.args.code) (long_shift_rule P own c.args.i.now found c.args.code c.requires.row c.requires.code) (c.shifted_long.ensures.leads h ls)
