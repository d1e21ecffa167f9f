use Rattle.std.proofs.Common.{◌≡◌, take}
use Rattle.nr_capture.specs.Roots.{slots_at}
use Rattle.nr_capture.proofs.values.elements.Given as goal

abbrev pub invariant-loop-slot : goal.invariant-loop-slot
invariant-loop-slot l = l.values.items ≡ take l.slot (slots_at l.heap.objects l.array)
