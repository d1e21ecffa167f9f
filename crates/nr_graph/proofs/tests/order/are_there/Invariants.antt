use Rattle.std.proofs.Common.{◌<◌, take}
use Rattle.std.specs.List.{AllByRecursion}
use Rattle.nr_graph.specs.Graphs.{nodes_in}
use Rattle.nr_graph.proofs.tests.order.are_there.Given as goal

abbrev pub invariant-loop-slot : goal.invariant-loop-slot
invariant-loop-slot l = AllByRecursion (λ i. i < l.count) (nodes_in (take l.slot-index l.slots))
