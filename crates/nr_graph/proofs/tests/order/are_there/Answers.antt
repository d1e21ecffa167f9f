use Rattle.nr_graph.proofs.Tested.{slots_below}
use Rattle.nr_graph.proofs.tests.order.are_there.Goals as goal

pub loop-slot-preserved : goal.loop-slot-preserved
loop-slot-preserved c =
    slots_below c.args.count c.args.slots.now c.loop-slot.slot-index _ c.loop-slot-test.true c.loop-slot.invariant (c.is_there.ensures c.if-not-is_there.false)
