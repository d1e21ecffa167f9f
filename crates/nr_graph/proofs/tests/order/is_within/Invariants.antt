use Rattle.std.proofs.Common.{take}
use Rattle.std.specs.List.{AllByRecursion}
use Rattle.nr_graph.specs.Graphs.{AreThere, nodes_in}
use Rattle.nr_graph.proofs.tests.order.is_within.Given as goal

abbrev pub invariant-loop-node : goal.invariant-loop-node
invariant-loop-node l = AllByRecursion (λ n. AreThere l.graph (nodes_in n.slots)) (take l.node-index l.graph.nodes)
