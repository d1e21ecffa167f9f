use Rattle.nr_model.specs.Scripts.{PlainNull, Push}
use Rattle.nr_step.specs.Windows.{window}
use Rattle.nr_step.proofs.ConstantRules.{null_rule, push_fits, pushed}
use Rattle.nr_step.proofs.Rows.{go_on_by}
use Rattle.nr_step.proofs.instructions.constants.aconst_null.Goals as goal

pub null-requires : goal.null-requires
null-requires c =
    let can = c.requires.can in
    record {
      room = push_fits can.0 can.1 c.args.i.now can.2 can.3 can.4 c.args.stack.now c.args.depth.now (Push PlainNull) (null_rule can.0 can.1 c.args.i.now can.2 c.requires.row)
          (pushed PlainNull (window can.3 can.4 c.args.stack.now c.args.depth.now)) can.5;
    }

pub returns-clause-went : goal.returns-clause-went
returns-clause-went c = λ told P own found h ls.
    go_on_by P own c.args.i.now found (window h ls c.args.stack.now c.args.depth.now) (window h ls c.null.new.stack c.null.new.depth) (Push PlainNull) (null_rule P own c.args.i.now found c.requires.row) (c.null.ensures.leads h ls)
