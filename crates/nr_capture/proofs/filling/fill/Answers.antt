use Rattle.std.proofs.Common.{◌≡◌, ◌≤◌, ap, arith, get_or, length}
use Rattle.std.specs.Prelude.{pos}
use Rattle.nr_graph.specs.declared.graph.Slot.TheVariants.{Int}
use Rattle.nr_capture.proofs.FilledSlots.{SlotAt, filled_more, filled_node, node_at, others_more, slot_at, slot_kept, slot_named, slot_place, slot_within, slots_are, slots_few, written_objects}
use Rattle.nr_capture.proofs.filling.fill.Goals as goal

pub value_of-value-requires : goal.value_of-value-requires
value_of-value-requires c =
    let P = c.args.forms.now in
    let g = c.args.graph.now in
    let n = get_or c.as_slice-nodes.result.now c.args.node c.index-nodes-node.result in
    let s = get_or c.as_slice-slots.result.now c.loop-k.k (Int (pos 0)) in
    let x = get_or c.args.names.now c.args.node 0 in
    let slots : c.as_slice-slots.result.now ≡ (get_or c.as_slice-nodes.result.now c.args.node c.index-nodes-node-2.result).slots = cc in
    let at : SlotAt c.args.names.now g c.args.node c.loop-k.k x n s = slot_at c.args.names.now c.args.graph.now c.as_slice-nodes.result.now c.as_slice-slots.result.now c.args.node c.index-nodes-node.result c.index-nodes-node-2.result c.as_slice-nodes.ensures c.requires.node slots c.loop-k.k (Int (pos 0))
    c.loop-k.invariant.0.made.count c.loop-k-test.true in
    slot_named P c.args.names.now g c.requires.fits c.loop-k.invariant.0.made.count c.args.node c.loop-k.k n s at.node at.slot

pub overflow_cast-k : goal.overflow_cast-k
overflow_cast-k c =
    let slots : c.as_slice-slots.result.now ≡ (get_or c.as_slice-nodes.result.now c.args.node c.index-nodes-node-2.result).slots = cc in
    record {
      fits = slots_few c.args.names.now c.args.graph.now c.as_slice-nodes.result.now c.as_slice-slots.result.now c.args.node c.index-nodes-node.result c.index-nodes-node-2.result c.as_slice-nodes.ensures c.requires.node slots
          c.loop-k.k c.requires.few c.loop-k-test.true;
    }

pub place_of-place-requires : goal.place_of-place-requires
place_of-place-requires c =
    let P = c.args.forms.now in
    let g = c.args.graph.now in
    let n = get_or c.as_slice-nodes.result.now c.args.node c.index-nodes-node.result in
    let s = get_or c.as_slice-slots.result.now c.loop-k.k (Int (pos 0)) in
    let x = get_or c.args.names.now c.args.node 0 in
    let slots : c.as_slice-slots.result.now ≡ (get_or c.as_slice-nodes.result.now c.args.node c.index-nodes-node-2.result).slots = cc in
    let at : SlotAt c.args.names.now g c.args.node c.loop-k.k x n s = slot_at c.args.names.now c.args.graph.now c.as_slice-nodes.result.now c.as_slice-slots.result.now c.args.node c.index-nodes-node.result c.index-nodes-node-2.result c.as_slice-nodes.ensures c.requires.node slots c.loop-k.k (Int (pos 0))
    c.loop-k.invariant.0.made.count c.loop-k-test.true in
    slot_place P c.requires.linked c.args.names.now g c.requires.fits c.args.node c.loop-k.k c.loop-k.heap.objects c.loop-k.invariant.0 x n s at.name at.node at.slot

pub set_slot-requires-clause-slot : goal.set_slot-requires-clause-slot
set_slot-requires-clause-slot c =
    let P = c.args.forms.now in
    let g = c.args.graph.now in
    let n = get_or c.as_slice-nodes.result.now c.args.node c.index-nodes-node.result in
    let s = get_or c.as_slice-slots.result.now c.loop-k.k (Int (pos 0)) in
    let x = get_or c.args.names.now c.args.node 0 in
    let slots : c.as_slice-slots.result.now ≡ (get_or c.as_slice-nodes.result.now c.args.node c.index-nodes-node-2.result).slots = cc in
    let at : SlotAt c.args.names.now g c.args.node c.loop-k.k x n s = slot_at c.args.names.now c.args.graph.now c.as_slice-nodes.result.now c.as_slice-slots.result.now c.args.node c.index-nodes-node.result c.index-nodes-node-2.result c.as_slice-nodes.ensures c.requires.node slots c.loop-k.k (Int (pos 0))
    c.loop-k.invariant.0.made.count c.loop-k-test.true in
    slot_within P c.requires.linked c.args.names.now g c.requires.fits c.args.node c.loop-k.k c.loop-k.heap.objects c.loop-k.invariant.0 x n s at.name at.node at.slot
    c.place_of-place.result c.value_of-value.result c.place_of-place.ensures c.value_of-value.ensures

pub set_slot-requires-clause-keeps : goal.set_slot-requires-clause-keeps
set_slot-requires-clause-keeps c =
    let P = c.args.forms.now in
    let g = c.args.graph.now in
    let n = get_or c.as_slice-nodes.result.now c.args.node c.index-nodes-node.result in
    let s = get_or c.as_slice-slots.result.now c.loop-k.k (Int (pos 0)) in
    let x = get_or c.args.names.now c.args.node 0 in
    let slots : c.as_slice-slots.result.now ≡ (get_or c.as_slice-nodes.result.now c.args.node c.index-nodes-node-2.result).slots = cc in
    let at : SlotAt c.args.names.now g c.args.node c.loop-k.k x n s = slot_at c.args.names.now c.args.graph.now c.as_slice-nodes.result.now c.as_slice-slots.result.now c.args.node c.index-nodes-node.result c.index-nodes-node-2.result c.as_slice-nodes.ensures c.requires.node slots c.loop-k.k (Int (pos 0))
    c.loop-k.invariant.0.made.count c.loop-k-test.true in
    slot_kept P c.requires.linked c.args.names.now g c.requires.fits c.args.node c.loop-k.k c.loop-k.heap.objects c.loop-k.invariant.0 x n s at.name at.node at.slot
    c.place_of-place.result c.value_of-value.result c.place_of-place.ensures c.value_of-value.ensures

pub loop-k-preserved : goal.loop-k-preserved
loop-k-preserved c =
    let P = c.args.forms.now in
    let g = c.args.graph.now in
    let n = get_or c.as_slice-nodes.result.now c.args.node c.index-nodes-node.result in
    let s = get_or c.as_slice-slots.result.now c.loop-k.k (Int (pos 0)) in
    let x = get_or c.args.names.now c.args.node 0 in
    let slots : c.as_slice-slots.result.now ≡ (get_or c.as_slice-nodes.result.now c.args.node c.index-nodes-node-2.result).slots = cc in
    let at : SlotAt c.args.names.now g c.args.node c.loop-k.k x n s = slot_at c.args.names.now c.args.graph.now c.as_slice-nodes.result.now c.as_slice-slots.result.now c.args.node c.index-nodes-node.result c.index-nodes-node-2.result c.as_slice-nodes.ensures c.requires.node slots c.loop-k.k (Int (pos 0))
    c.loop-k.invariant.0.made.count c.loop-k-test.true in
    let set = written_objects c.loop-k.heap c.set_slot.new.self x c.place_of-place.result c.value_of-value.result c.set_slot.ensures in (
      filled_more P c.requires.linked c.args.names.now g c.requires.fits c.args.node c.loop-k.k c.loop-k.heap.objects c.loop-k.invariant.0 x n s at.name at.node at.slot
          c.place_of-place.result c.value_of-value.result c.place_of-place.ensures c.value_of-value.ensures c.set_slot.new.self.objects c.requires.distinct set,
      others_more c.args.names.now c.args.heap.now.objects c.loop-k.heap.objects c.set_slot.new.self.objects c.args.node x c.place_of-place.result c.value_of-value.result c.loop-k.invariant.1 at.name set,
    )

pub returns-clause-filled : goal.returns-clause-filled
returns-clause-filled c =
    let g = c.args.graph.now in
    let ns = c.as_slice-nodes.result.now in
    let ss = c.as_slice-slots.result.now in
    let n = get_or ns c.args.node c.index-nodes-node.result in
    let slots : ss ≡ (get_or ns c.args.node c.index-nodes-node-2.result).slots = cc in
    let are = slots_are c.args.names.now g ns ss c.args.node c.index-nodes-node.result c.index-nodes-node-2.result c.as_slice-nodes.ensures c.requires.node slots in
    let end : length n.slots ≤ c.loop-k.k = let l = ap length are in omega (arith, l, c.loop-k-test.false) in
    filled_node c.args.forms.now c.args.names.now g c.args.node c.loop-k.k c.loop-k.heap.objects n c.loop-k.invariant.0
    (node_at c.args.names.now g ns ss c.args.node c.index-nodes-node.result c.index-nodes-node-2.result c.as_slice-nodes.ensures c.requires.node slots) end
