use Rattle.std.proofs.Common.{◌≤◌, drop, length, take}
use Rattle.std.specs.Vec.{vec_capacity}
use Rattle.nr_capture.specs.Making.{HasRoom, MadeOf}
use Rattle.nr_capture.proofs.making.make_nodes.Given as goal

abbrev pub invariant-loop-node : goal.invariant-loop-node
invariant-loop-node l = record {
  made : MadeOf l.forms l.initial.heap.objects l.heap.objects l.names.items (take l.node-index l.nodes);
  room : HasRoom l.heap (drop l.node-index l.nodes);
  capacity : length l.nodes ≤ vec_capacity l.names;
}
