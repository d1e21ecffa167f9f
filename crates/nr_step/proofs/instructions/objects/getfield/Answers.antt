use Rattle.std.proofs.Common.{◌≡◌, ℕ, length, ◌<◌, List, true, subst, slice_get, Some}
use Rattle.std.specs.FinMap.{get}
use Rattle.nr_linked.specs.declared.program.tables.ProgramTables.{ProgramTables}
use Rattle.nr_linked.specs.declared.program.tables.Resolved.{Resolved}
use Rattle.nr_linked.specs.Kinds.{class_kind}
use Rattle.nr_linked.specs.Subtypes.{is_sub}
use Rattle.nr_prog.specs.declared.body.instruction.Instr.{Instr}
use Rattle.nr_model.specs.declared.value.Value.{Value}
use Rattle.nr_model.specs.Heaps.{Heap}
use Rattle.nr_model.specs.ObjectRules.{has_fields_of}
use Rattle.nr_model.specs.Scripts.{ReadSlot}
use Rattle.nr_model.specs.Throws.{onward}
use Rattle.nr_step.specs.Instructions.{CanFind, IsRowOf, doing}
use Rattle.nr_step.specs.Windows.{CanBegin, top_first, window}
use Rattle.nr_step.proofs.Objects.{SlotFound, getfield_rule, not_null_asks, null_thrown, read_leads, read_there, reads, same_place, slot_found, some_map}
use Rattle.nr_step.proofs.Rows.{begin_by, go_on_by}
use Rattle.nr_step.proofs.instructions.objects.getfield.Goals as goal

slot : (P : ProgramTables) (i : Instr) (found : Resolved) (h : Heap) (s : List Value) (d : ℕ) → IsRowOf 180 i.row → CanFind P i found h s d → SlotFound P found
slot P i found h s d r can = slot_found P can.0 i found (window h can.1 s d) (length s) r can.2

begun : (P : ProgramTables) (i : Instr) (found : Resolved) (h : Heap) (s : List Value) (d : ℕ) → IsRowOf 180 i.row → (f : SlotFound P found) → (can : CanFind P i found h s d) → CanBegin (reads P f.info f.place) (window h can.1 s d)
begun P i found h s d r f can = begin_by P can.0 i found (window h can.1 s d) (length s) (reads P f.info f.place) (getfield_rule P can.0 i found r f) can.2

pub unreachable-requires : goal.unreachable-requires
unreachable-requires c =
    let f = slot c.args.p.now c.args.i.now c.args.found.now c.args.heap.now.objects c.args.stack.now c.args.depth.now c.requires.row c.requires.can in
    c.in_default.not-Slot f.owner f.place f.is

pub reference_at-requires-clause-some : goal.reference_at-requires-clause-some
reference_at-requires-clause-some c =
    let f = slot c.args.p.now c.args.i.now c.args.found.now c.args.heap.now.objects c.args.stack.now c.args.depth.now c.requires.row c.requires.can in
    not_null_asks c.args.p.now 0 (λ k. has_fields_of c.args.p.now 0 f.info.declared_in (ReadSlot f.place k)) c.args.heap.now.objects c.requires.can.1 (top_first c.args.stack.now c.args.depth.now)
    (begun c.args.p.now c.args.i.now c.args.found.now c.args.heap.now.objects c.args.stack.now c.args.depth.now c.requires.row f c.requires.can)

pub returns-in_default-reference_at-clause-went : goal.returns-in_default-reference_at-clause-went
returns-in_default-reference_at-clause-went c = λ own ls.
    let f = slot c.args.p.now c.args.i.now c.args.found.now c.args.heap.now.objects c.args.stack.now c.args.depth.now c.requires.row c.requires.can in
    null_thrown c.throw_object.result c.args.p.now (doing c.args.p.now own c.args.i.now c.args.found.now) (λ n. has_fields_of c.args.p.now 0 f.info.declared_in (ReadSlot f.place (onward n)))
    c.args.heap.now.objects c.throw_object.new.heap.objects ls (top_first c.args.stack.now c.args.depth.now) c.throw_object.new.told
    c.in_default-reference_at.ensures (getfield_rule c.args.p.now own c.args.i.now c.args.found.now c.requires.row f) c.throw_object.ensures

pub get_slot-value-requires : goal.get_slot-value-requires
get_slot-value-requires c =
    let f = slot c.args.p.now c.args.i.now c.args.found.now c.args.heap.now.objects c.args.stack.now c.args.depth.now c.requires.row c.requires.can in
    let t = read_there c.args.p.now f.info f.place c.in-Some.name c.args.heap.now.objects c.requires.can.1 (top_first c.args.stack.now c.args.depth.now)
    (begun c.args.p.now c.args.i.now c.args.found.now c.args.heap.now.objects c.args.stack.now c.args.depth.now c.requires.row f c.requires.can) c.in-Some.ensures in
    some_map (get c.args.heap.now.objects c.in-Some.name) (λ o. (is_sub c.args.p.now o.kind (class_kind f.info.declared_in) ≡ true) × (f.place < length o.slots)) (λ o. c.in-Slot.slot < length o.slots) t
    (λ o q. subst (λ n. n < length o.slots) (same_place c.args.found.now f.owner c.in-Slot.field-0 f.place c.in-Slot.slot f.is c.in-Slot.is) q.1)

pub returns-clause-went : goal.returns-clause-went
returns-clause-went c = λ own ls.
    let vs : List Value = top_first c.args.stack.now c.args.depth.now in
    let f = slot c.args.p.now c.args.i.now c.args.found.now c.args.heap.now.objects c.args.stack.now c.args.depth.now c.requires.row c.requires.can in
    let t = read_there c.args.p.now f.info f.place c.in-Some.name c.args.heap.now.objects c.requires.can.1 vs
    (begun c.args.p.now c.args.i.now c.args.found.now c.args.heap.now.objects c.args.stack.now c.args.depth.now c.requires.row f c.requires.can) c.in-Some.ensures in
    go_on_by c.args.p.now own c.args.i.now c.args.found.now (window c.args.heap.now.objects ls c.args.stack.now c.args.depth.now) (window c.args.heap.now.objects ls c.push.new.stack c.push.new.depth)
    (reads c.args.p.now f.info f.place) (getfield_rule c.args.p.now own c.args.i.now c.args.found.now c.requires.row f)
    (read_leads c.args.p.now f.info f.place c.in-Some.name c.get_slot-value.result c.args.heap.now.objects ls vs (top_first c.args.stack.now c.pop.new.depth) (top_first c.push.new.stack c.push.new.depth) c.in-Some.ensures t
    (some_map (get c.args.heap.now.objects c.in-Some.name) (λ o. slice_get o.slots c.in-Slot.slot ≡ Some c.get_slot-value.result) (λ o. slice_get o.slots f.place ≡ Some c.get_slot-value.result) c.get_slot-value.ensures
    (λ o q. subst (λ n. slice_get o.slots n ≡ Some c.get_slot-value.result) (same_place c.args.found.now c.in-Slot.field-0 f.owner c.in-Slot.slot f.place c.in-Slot.is f.is) q))
    c.pop.result c.pop.ensures.popped c.push.ensures.pushed)
