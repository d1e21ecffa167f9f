use Rattle.std.proofs.Common.{length}
use Rattle.nr_model.specs.ValueRules.{store}
use Rattle.nr_step.specs.Windows.{top_first, window}
use Rattle.nr_step.proofs.Loads.{letter_stored, numbered_store_rule, store_elsewhere}
use Rattle.nr_step.proofs.Rows.{begin_by, go_on_by}
use Rattle.nr_step.proofs.instructions.locals.store_numbered.Goals as goal

pub store_variable-requires-clause-can : goal.store_variable-requires-clause-can
store_variable-requires-clause-can c =
    let can = c.requires.can in
    (letter_stored c.args.i.now, can.3, begin_by can.0 can.1 c.args.i.now can.2 (window can.3 c.args.locals.now c.args.stack.now c.args.depth.now) (length c.args.stack.now) (store (letter_stored c.args.i.now) c.from.result) (numbered_store_rule can.0 can.1 c.args.i.now can.2 c.args.code c.from.result c.requires.row c.requires.low c.requires.high c.requires.shaped c.from.ensures) can.4)

pub returns-clause-went : goal.returns-clause-went
returns-clause-went c = λ told P own found h.
    let can = c.requires.can in
    go_on_by P own c.args.i.now found (window h c.args.locals.now c.args.stack.now c.args.depth.now) (window h c.store_variable.new.locals c.args.stack.now c.store_variable.new.depth) (store (letter_stored c.args.i.now) c.from.result) (numbered_store_rule P own c.args.i.now found c.args.code c.from.result c.requires.row c.requires.low c.requires.high c.requires.shaped c.from.ensures)
    (c.store_variable.ensures.leads (letter_stored c.args.i.now) h (store_elsewhere (letter_stored c.args.i.now) c.from.result can.3 h c.args.locals.now (top_first c.args.stack.now c.args.depth.now) (begin_by can.0 can.1 c.args.i.now can.2 (window can.3 c.args.locals.now c.args.stack.now c.args.depth.now) (length c.args.stack.now) (store (letter_stored c.args.i.now) c.from.result) (numbered_store_rule can.0 can.1 c.args.i.now can.2 c.args.code c.from.result c.requires.row c.requires.low c.requires.high c.requires.shaped c.from.ensures) can.4)))
