use Rattle.std.proofs.Common.{map, ap}
use Rattle.nr_serform.specs.StreamSlots.{placed_of}
use Rattle.nr_serform.proofs.PlacedSlots.{declared_first}
use Rattle.nr_serform.proofs.order.declared_slots.Goals as goal

pub returns : goal.returns
returns c =
    declared_first c.args.program.now c.args.«class» c.args.«class» c.slots_of.result.now (map placed_of c.new-found.result.items) (map placed_of c.push_declared.new.found.items)
    c.slots_of.ensures.slots (ap (map placed_of) c.new-found.ensures.items) c.in_ok-push_declared.ensures
