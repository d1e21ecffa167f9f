use Rattle.std.proofs.Common.{◌≡◌, ◌++◌, reverse}
use Rattle.nr_graph.specs.Graphs.{nodes_in, root_slots}
use Rattle.nr_graph.proofs.graph.order.push_roots.Given as goal

abbrev pub invariant-loop-root : goal.invariant-loop-root
invariant-loop-root l = l.stack.items ≡ l.initial.stack.items ++ reverse (nodes_in (root_slots (reverse l.yielded)))
