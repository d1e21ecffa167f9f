use Rattle.nr_names.specs.Numbers.{texts}
use Rattle.nr_linked.specs.Programs.{methods_of}
use Rattle.nr_link.specs.Lookups.{method_key}
use Rattle.nr_link.proofs.KeptMembers.{all_up, begins_up, goes_up}
use Rattle.nr_link.proofs.keeping.methods_table.Goals as goal

pub loop-method-init : goal.loop-method-init
loop-method-init c =
    begins_up (method_key c.args.tables.now (texts c.args.known.now) c.args.class) c.methods_of-start.result.start c.methods_of-start.result.end c.new-table.result
    (methods_of c.args.tables.now c.args.class) c.new-table.ensures c.methods_of-start.ensures

pub loop-method-preserved : goal.loop-method-preserved
loop-method-preserved c =
    goes_up (method_key c.args.tables.now (texts c.args.known.now) c.args.class) c.loop-method.method c.methods_of-start.result.end c.loop-method.table c.add.new.self c.method_key.result
    (methods_of c.args.tables.now c.args.class) c.loop-method-test.true c.method_key.ensures c.in_ok-add.ensures c.loop-method.invariant

pub returns-clause-table : goal.returns-clause-table
returns-clause-table c =
    all_up (method_key c.args.tables.now (texts c.args.known.now) c.args.class) c.loop-method.method c.methods_of-start.result.end c.loop-method.table
    (methods_of c.args.tables.now c.args.class) c.loop-method-test.false c.loop-method.invariant
