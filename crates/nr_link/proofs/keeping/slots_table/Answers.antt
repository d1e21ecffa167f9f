use Rattle.nr_names.specs.Numbers.{texts}
use Rattle.nr_link.specs.Lookups.{slot_key}
use Rattle.nr_link.proofs.KeptMembers.{all_put, puts}
use Rattle.nr_link.proofs.keeping.slots_table.Goals as goal

pub loop-place-init : goal.loop-place-init
loop-place-init c = c.new-table.ensures

pub loop-place-preserved : goal.loop-place-preserved
loop-place-preserved c =
    puts (slot_key (texts c.args.known.now)) c.loop-place.place c.args.slots.now c.index-slots-place.result c.slot_key.result c.loop-place.table c.add.new.self
    c.loop-place-test.true c.index-slots-place.is c.slot_key.ensures c.in_ok-add.ensures c.loop-place.invariant

pub returns-clause-table : goal.returns-clause-table
returns-clause-table c = all_put (slot_key (texts c.args.known.now)) c.loop-place.place c.args.slots.now c.loop-place.table c.loop-place-test.false c.loop-place.invariant
