use Rattle.nr_capture.specs.Filling.{ChangesOnly, IsFilled}
use Rattle.nr_capture.proofs.filling.fill_nodes.Given as goal

abbrev pub invariant-loop-node : goal.invariant-loop-node
invariant-loop-node l = IsFilled l.forms l.names l.graph l.node 0 l.heap.objects × ChangesOnly l.names l.initial.heap.objects l.heap.objects
