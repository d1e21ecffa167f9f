use Rattle.std.proofs.Common.{take}
use Rattle.nr_capture.specs.Reading.{AreAt}
use Rattle.nr_capture.specs.Roots.{slots_at}
use Rattle.nr_capture.proofs.values.fields.Given as goal

abbrev pub invariant-loop-slot : goal.invariant-loop-slot
invariant-loop-slot l = AreAt (slots_at l.heap.objects l.object) (take l.slot-index l.slots) l.values.items
