use Rattle.std.proofs.Common.{◌+◌, length}
use Rattle.nr_graph.specs.Graphs.{next_node, root_nodes}
use Rattle.nr_graph.proofs.Ordered.{StandsAt, unmet}
use Rattle.nr_graph.proofs.graph.Graph.in_order.Given as goal

abbrev pub invariant-loop-node : goal.invariant-loop-node
invariant-loop-node l = StandsAt (next_node l.self) (length l.self.nodes) (root_nodes l.self) l.stack.items l.count

abbrev pub decreases-loop-node : goal.decreases-loop-node
decreases-loop-node l = length l.stack.items + unmet (next_node l.self) (length l.self.nodes) l.count
