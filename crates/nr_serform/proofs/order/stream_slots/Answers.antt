use Rattle.std.proofs.Common.{map}
use Rattle.nr_serform.specs.StreamSlots.{placed_of}
use Rattle.nr_serform.proofs.PlacedSlots.{declared_more}
use Rattle.nr_serform.proofs.order.stream_slots.Goals as goal

pub loop-declaring-preserved : goal.loop-declaring-preserved
loop-declaring-preserved c =
    declared_more c.args.program.now c.args.«class» c.in-Some.declaring c.slots_of-slots.result.now c.loop-declaring.yielded (map placed_of c.loop-declaring.found.items)
    (map placed_of c.push_declared.new.found.items) c.slots_of-slots.ensures.slots c.in_ok-push_declared.ensures c.loop-declaring.invariant
