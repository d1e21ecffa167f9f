use Rattle.std.proofs.Common.{take}
use Rattle.nr_graph.specs.Listing.{Picked}
use Rattle.nr_graph.proofs.linear_map.LinearMap.pick.Given as goal

abbrev pub invariant-loop-node : goal.invariant-loop-node
invariant-loop-node l = Picked l.self (take l.node-index l.nodes) l.picked
