use Rattle.std.proofs.Common.{◌≡◌, ◌-◌, ◌^◌, min, take}
use Rattle.nr_graph.specs.Graphs.{cells_of_nodes}
use Rattle.nr_capture.proofs.room.cells_of.Given as goal

abbrev pub invariant-loop-node : goal.invariant-loop-node
invariant-loop-node l = l.cells ≡ min (cells_of_nodes (take l.node-index l.nodes)) (2 ^ 64 - 1)
