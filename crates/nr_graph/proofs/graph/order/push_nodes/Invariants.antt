use Rattle.std.proofs.Common.{◌≡◌, ◌++◌, reverse}
use Rattle.nr_graph.specs.Graphs.{nodes_in}
use Rattle.nr_graph.proofs.graph.order.push_nodes.Given as goal

abbrev pub invariant-loop-slot : goal.invariant-loop-slot
invariant-loop-slot l = l.stack.items ≡ l.initial.stack.items ++ reverse (nodes_in (reverse l.yielded))
