use Rattle.nr_capture.specs.Roots.{slots_at}
use Rattle.nr_capture.proofs.Found.{slot_got, take_next}
use Rattle.nr_capture.proofs.values.elements.Goals as goal

pub loop-slot-preserved : goal.loop-slot-preserved
loop-slot-preserved c =
    let h = c.args.heap.now.objects in
    take_next (slots_at h c.args.array) c.loop-slot.values.items c.push.new.self.items c.loop-slot.slot c.get_slot.result c.loop-slot.invariant c.in_ok-push.ensures.items
    (slot_got h c.args.array c.loop-slot.slot c.get_slot.result c.get_slot.ensures)
