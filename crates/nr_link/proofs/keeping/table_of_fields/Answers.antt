use Rattle.nr_names.specs.Numbers.{texts}
use Rattle.nr_link.specs.Lookups.{field_key}
use Rattle.nr_link.proofs.KeptMembers.{all_put, puts_at}
use Rattle.nr_link.proofs.keeping.table_of_fields.Goals as goal

pub loop-place-init : goal.loop-place-init
loop-place-init c = c.new-table.ensures

pub loop-place-preserved : goal.loop-place-preserved
loop-place-preserved c =
    puts_at (field_key (texts c.args.known.now) c.args.holder c.args.class.now.pool) c.loop-place.place c.args.fields.now _ c.field_key.result c.loop-place.table c.add.new.self
    c.loop-place-test.true c.field_key.ensures c.in_ok-add.ensures c.loop-place.invariant

pub returns-clause-table : goal.returns-clause-table
returns-clause-table c = all_put (field_key (texts c.args.known.now) c.args.holder c.args.class.now.pool) c.loop-place.place c.args.fields.now c.loop-place.table c.loop-place-test.false c.loop-place.invariant
