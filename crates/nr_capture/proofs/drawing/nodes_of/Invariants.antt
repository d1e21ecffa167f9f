use Rattle.nr_capture.specs.Drawing.{AllDrawnTo}
use Rattle.nr_capture.proofs.drawing.nodes_of.Given as goal

abbrev pub invariant-loop-place : goal.invariant-loop-place
invariant-loop-place l = AllDrawnTo l.forms l.heap.objects l.names l.place l.nodes
