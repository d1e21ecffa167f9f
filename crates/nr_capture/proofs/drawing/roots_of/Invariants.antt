use Rattle.std.proofs.Common.{take}
use Rattle.nr_graph.specs.Graphs.{root_slots}
use Rattle.nr_graph.specs.Pictures.{AllDraw}
use Rattle.nr_capture.specs.Roots.{root_values}
use Rattle.nr_capture.proofs.drawing.roots_of.Given as goal

abbrev pub invariant-loop-root : goal.invariant-loop-root
invariant-loop-root l = AllDraw l.names (root_values (take l.root-index l.roots)) (root_slots l.found)
