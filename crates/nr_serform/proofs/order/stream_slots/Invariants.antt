use Rattle.std.proofs.Common.{◌≡◌, map}
use Rattle.std.specs.List.{flat_map}
use Rattle.nr_graph.specs.StreamOrder.{declared_slots}
use Rattle.nr_serform.specs.StreamSlots.{placed_of}
use Rattle.nr_serform.proofs.order.stream_slots.Given as goal

abbrev pub invariant-loop-declaring : goal.invariant-loop-declaring
invariant-loop-declaring l = map placed_of l.found.items ≡ flat_map (declared_slots l.program l.«class») l.yielded
