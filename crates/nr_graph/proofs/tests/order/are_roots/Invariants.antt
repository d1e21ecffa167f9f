use Rattle.std.proofs.Common.{◌<◌, take}
use Rattle.std.specs.List.{AllByRecursion}
use Rattle.nr_graph.specs.Graphs.{nodes_in, root_slots}
use Rattle.nr_graph.proofs.tests.order.are_roots.Given as goal

abbrev pub invariant-loop-root : goal.invariant-loop-root
invariant-loop-root l = AllByRecursion (λ i. i < l.count) (nodes_in (root_slots (take l.root-index l.roots)))
