use Rattle.std.proofs.Common.{◌+◌, ◌^◌, length}
use Rattle.nr_graph.specs.Pictures.{next_in}
use Rattle.nr_capture.specs.Roots.{root_values}
use Rattle.nr_capture.proofs.Stands.{Stands, unmet}
use Rattle.nr_capture.proofs.walk.walk.Given as goal

abbrev pub invariant-loop-name : goal.invariant-loop-name
invariant-loop-name l = Stands l.forms l.heap.objects (root_values l.roots) l.stack.items l.names

abbrev pub decreases-loop-name : goal.decreases-loop-name
decreases-loop-name l = length l.stack.items + unmet (next_in l.forms l.heap.objects) (2 ^ 32) l.names
