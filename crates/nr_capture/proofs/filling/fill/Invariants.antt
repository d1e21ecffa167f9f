use Rattle.nr_capture.specs.Filling.{ChangesOnly, IsFilled}
use Rattle.nr_capture.proofs.filling.fill.Given as goal

abbrev pub invariant-loop-k : goal.invariant-loop-k
invariant-loop-k l = IsFilled l.forms l.names l.graph l.node l.k l.heap.objects × ChangesOnly l.names l.initial.heap.objects l.heap.objects
