use Rattle.std.proofs.Common.{◌<◌, ◌≡◌, ◌∷◌, ℕ, List, length, Some, sym, subst, refl}
use Rattle.std.proofs.lemmas.Option.{slice_get_within}
use Rattle.std.specs.Prelude.{slice_get}
use Rattle.std.specs.FinMap.{get}
use Rattle.nr_linked.specs.declared.program.kind.Kind.{Kind}
use Rattle.nr_linked.specs.declared.program.tables.ProgramTables.{ProgramTables}
use Rattle.nr_linked.specs.declared.program.tables.Resolved.{Resolved}
use Rattle.nr_linked.specs.declared.program.tables.Resolved.TheVariants as resolved
use Rattle.nr_linked.specs.declared.program.tables.SlotInfo.{SlotInfo}
use Rattle.nr_linked.specs.Slots.{kind_of_slot, slots_of}
use Rattle.nr_prog.specs.declared.body.instruction.Instr.{Instr}
use Rattle.nr_model.specs.declared.value.Value.{Value}
use Rattle.nr_model.specs.Heaps.{Heap}
use Rattle.nr_model.specs.ObjectRules.{kept_as}
use Rattle.nr_step.specs.Instructions.{CanFind, IsRowOf, doing}
use Rattle.nr_step.specs.Windows.{CanBegin, Turns, top_first, view, window}
use Rattle.nr_step.proofs.ArrayStores.{slot_written}
use Rattle.nr_step.proofs.Fields.{HasFields, begins_writes, entry_of, field_found, field_keeps, fields_there, kind_of_entry, putfield_rule, puts, write_asks, write_leads, write_null, writes}
use Rattle.nr_step.proofs.Objects.{SlotFound, some_map}
use Rattle.nr_step.proofs.Rows.{begin_by, go_on_by}
use Rattle.nr_step.proofs.instructions.fields.putfield.Goals as goal

slot : (P : ProgramTables) (i : Instr) (found : Resolved) (h : Heap) (s : List Value) (d : ℕ) → IsRowOf 181 i.row → CanFind P i found h s d → SlotFound P found
slot P i found h s d r can = field_found P can.0 i found (window h can.1 s d) (length s) r can.2

entry : (P : ProgramTables) (i : Instr) (found : Resolved) (c j : ℕ) (h : Heap) (s : List Value) (d : ℕ) → IsRowOf 181 i.row → CanFind P i found h s d → found ≡ resolved.Slot c j → (e : SlotInfo) × (slice_get (slots_of P c) j ≡ Some e)
entry P i found c j h s d r can is = entry_of P found c j is (slot P i found h s d r can)

begun : (P : ProgramTables) (i : Instr) (found : Resolved) (c j : ℕ) (e : SlotInfo) (h : Heap) (s : List Value) (d : ℕ) → IsRowOf 181 i.row → (can : CanFind P i found h s d) → found ≡ resolved.Slot c j → slice_get (slots_of P c) j ≡ Some e
    → CanBegin (puts P e j) (window h can.1 s d)
begun P i found c j e h s d r can is there = begin_by P can.0 i found (window h can.1 s d) (length s) (puts P e j) (putfield_rule P can.0 i found c j e r is there) can.2

begins_kept : (P : ProgramTables) (e : SlotInfo) (j c : ℕ) (k : Kind) (h : Heap) (ls vs : List Value) → slice_get (slots_of P c) j ≡ Some e → kind_of_slot P c j ≡ Some k → CanBegin (puts P e j) (view h ls vs) → CanBegin (kept_as k) (view h ls vs)
begins_kept P e j c k h ls vs there is (s, en, u, r) = subst (λ k. CanBegin (kept_as k) (view h ls vs)) (kind_of_entry P c j e k there is) (writes P e j s, en, u, r)

turns : (P : ProgramTables) (e : SlotInfo) (j c : ℕ) (k : Kind) (h : Heap) (ls vs us : List Value) → slice_get (slots_of P c) j ≡ Some e → kind_of_slot P c j ≡ Some k → Turns (kept_as k) (view h ls vs) (view h ls us) → Turns (kept_as e.kind) (view h ls vs) (view h ls us)
turns P e j c k h ls vs us there is t = subst (λ k. Turns (kept_as k) (view h ls vs) (view h ls us)) (sym (kind_of_entry P c j e k there is)) t

pub unreachable-requires : goal.unreachable-requires
unreachable-requires c =
    let f = slot c.args.p.now c.args.i.now c.args.found.now c.args.heap.now.objects c.args.stack.now c.args.depth.now c.requires.row c.requires.can in
    c.in_default.not-Slot f.owner f.place f.is

pub slot_kind-requires : goal.slot_kind-requires
slot_kind-requires c =
    let e = entry c.args.p.now c.args.i.now c.args.found.now c.in-Slot.class c.in-Slot.slot c.args.heap.now.objects c.args.stack.now c.args.depth.now c.requires.row c.requires.can c.in-Slot.is in
    slice_get_within (slots_of c.args.p.now c.in-Slot.class) c.in-Slot.slot e.0 e.1

pub pop_kept-value-requires-clause-can : goal.pop_kept-value-requires-clause-can
pop_kept-value-requires-clause-can c =
    let e = entry c.args.p.now c.args.i.now c.args.found.now c.in-Slot.class c.in-Slot.slot c.args.heap.now.objects c.args.stack.now c.args.depth.now c.requires.row c.requires.can c.in-Slot.is in
    let b = begun c.args.p.now c.args.i.now c.args.found.now c.in-Slot.class c.in-Slot.slot e.0 c.args.heap.now.objects c.args.stack.now c.args.depth.now c.requires.row c.requires.can c.in-Slot.is e.1 in
    (c.args.heap.now.objects, c.requires.can.1, begins_kept c.args.p.now e.0 c.in-Slot.slot c.in-Slot.class c.slot_kind.result c.args.heap.now.objects c.requires.can.1 (top_first c.args.stack.now c.args.depth.now) e.1 c.slot_kind.ensures b)

-- what is left once the value is taken
left : (P : ProgramTables) (i : Instr) (found : Resolved) (c j : ℕ) (e : SlotInfo) (k : Kind) (v : Value) (us : List Value) (h : Heap) (s : List Value) (d : ℕ) → IsRowOf 181 i.row → (can : CanFind P i found h s d) → found ≡ resolved.Slot c j
    → slice_get (slots_of P c) j ≡ Some e → kind_of_slot P c j ≡ Some k → Turns (kept_as k) (window h can.1 s d) (view h can.1 (v ∷ us)) → CanBegin (writes P e j) (view h can.1 (v ∷ us))
left P i found c j e k v us h s d r can is there kind t =
    begins_writes P e j (window h can.1 s d) (view h can.1 (v ∷ us)) (turns P e j c k h can.1 (top_first s d) (v ∷ us) there kind t) (begun P i found c j e h s d r can is there)

pub reference_at-requires-clause-some : goal.reference_at-requires-clause-some
reference_at-requires-clause-some c =
    let can = c.requires.can in
    let us : List Value = top_first c.args.stack.now c.pop_kept-value.new.depth in
    let e = entry c.args.p.now c.args.i.now c.args.found.now c.in-Slot.class c.in-Slot.slot c.args.heap.now.objects c.args.stack.now c.args.depth.now c.requires.row can c.in-Slot.is in
    write_asks c.args.p.now e.0 c.in-Slot.slot c.args.heap.now.objects can.1 us c.pop_kept-value.result
    (left c.args.p.now c.args.i.now c.args.found.now c.in-Slot.class c.in-Slot.slot e.0 c.slot_kind.result c.pop_kept-value.result us c.args.heap.now.objects c.args.stack.now c.args.depth.now c.requires.row can c.in-Slot.is e.1 c.slot_kind.ensures (c.pop_kept-value.ensures.kept c.args.heap.now.objects can.1))

pub returns-in_default-reference_at-clause-went : goal.returns-in_default-reference_at-clause-went
returns-in_default-reference_at-clause-went c = λ own ls.
    let us : List Value = top_first c.args.stack.now c.pop_kept-value.new.depth in
    let e = entry c.args.p.now c.args.i.now c.args.found.now c.in-Slot.class c.in-Slot.slot c.args.heap.now.objects c.args.stack.now c.args.depth.now c.requires.row c.requires.can c.in-Slot.is in
    write_null c.throw_object.result c.args.p.now (doing c.args.p.now own c.args.i.now c.args.found.now) e.0 c.in-Slot.slot c.args.heap.now.objects c.throw_object.new.heap.objects ls (top_first c.args.stack.now c.args.depth.now) us c.pop_kept-value.result c.throw_object.new.told
    (turns c.args.p.now e.0 c.in-Slot.slot c.in-Slot.class c.slot_kind.result c.args.heap.now.objects ls (top_first c.args.stack.now c.args.depth.now) (c.pop_kept-value.result ∷ us) e.1 c.slot_kind.ensures (c.pop_kept-value.ensures.kept c.args.heap.now.objects ls))
    c.in_default-reference_at.ensures (putfield_rule c.args.p.now own c.args.i.now c.args.found.now c.in-Slot.class c.in-Slot.slot e.0 c.requires.row c.in-Slot.is e.1) c.throw_object.ensures

pub set_slot-requires-clause-slot : goal.set_slot-requires-clause-slot
set_slot-requires-clause-slot c =
    let can = c.requires.can in
    let us : List Value = top_first c.args.stack.now c.pop_kept-value.new.depth in
    let e = entry c.args.p.now c.args.i.now c.args.found.now c.in-Slot.class c.in-Slot.slot c.args.heap.now.objects c.args.stack.now c.args.depth.now c.requires.row can c.in-Slot.is in
    some_map (get c.args.heap.now.objects c.in-Some.name) (HasFields c.args.p.now e.0 c.in-Slot.slot) (λ o. c.in-Slot.slot < length o.slots)
    (fields_there c.args.p.now e.0 c.in-Slot.slot c.in-Some.name c.args.heap.now.objects can.1 us c.pop_kept-value.result
    (left c.args.p.now c.args.i.now c.args.found.now c.in-Slot.class c.in-Slot.slot e.0 c.slot_kind.result c.pop_kept-value.result us c.args.heap.now.objects c.args.stack.now c.args.depth.now c.requires.row can c.in-Slot.is e.1 c.slot_kind.ensures (c.pop_kept-value.ensures.kept c.args.heap.now.objects can.1)) c.in-Some.ensures)
    (λ o f. f.1)

pub set_slot-requires-clause-keeps : goal.set_slot-requires-clause-keeps
set_slot-requires-clause-keeps c =
    let can = c.requires.can in
    let us : List Value = top_first c.args.stack.now c.pop_kept-value.new.depth in
    let e = entry c.args.p.now c.args.i.now c.args.found.now c.in-Slot.class c.in-Slot.slot c.args.heap.now.objects c.args.stack.now c.args.depth.now c.requires.row can c.in-Slot.is in
    field_keeps c.args.p.now c.in-Slot.class c.in-Slot.slot e.0 c.args.heap.now.objects c.in-Some.name c.pop_kept-value.result c.tables.ensures.facts.typing e.1
    (fields_there c.args.p.now e.0 c.in-Slot.slot c.in-Some.name c.args.heap.now.objects can.1 us c.pop_kept-value.result
    (left c.args.p.now c.args.i.now c.args.found.now c.in-Slot.class c.in-Slot.slot e.0 c.slot_kind.result c.pop_kept-value.result us c.args.heap.now.objects c.args.stack.now c.args.depth.now c.requires.row can c.in-Slot.is e.1 c.slot_kind.ensures (c.pop_kept-value.ensures.kept c.args.heap.now.objects can.1)) c.in-Some.ensures)

pub returns-clause-went : goal.returns-clause-went
returns-clause-went c = λ own ls.
    let can = c.requires.can in
    let vs : List Value = top_first c.args.stack.now c.args.depth.now in
    let us : List Value = top_first c.args.stack.now c.pop_kept-value.new.depth in
    let e = entry c.args.p.now c.args.i.now c.args.found.now c.in-Slot.class c.in-Slot.slot c.args.heap.now.objects c.args.stack.now c.args.depth.now c.requires.row can c.in-Slot.is in
    go_on_by c.args.p.now own c.args.i.now c.args.found.now (window c.args.heap.now.objects ls c.args.stack.now c.args.depth.now) (window c.set_slot.new.self.objects ls c.args.stack.now c.pop.new.depth)
    (puts c.args.p.now e.0 c.in-Slot.slot) (putfield_rule c.args.p.now own c.args.i.now c.args.found.now c.in-Slot.class c.in-Slot.slot e.0 c.requires.row c.in-Slot.is e.1)
    (write_leads c.args.p.now e.0 c.in-Slot.slot c.in-Some.name c.args.heap.now.objects c.set_slot.new.self.objects ls vs us (top_first c.args.stack.now c.pop.new.depth) c.pop.result c.pop_kept-value.result
    (turns c.args.p.now e.0 c.in-Slot.slot c.in-Slot.class c.slot_kind.result c.args.heap.now.objects ls vs (c.pop_kept-value.result ∷ us) e.1 c.slot_kind.ensures (c.pop_kept-value.ensures.kept c.args.heap.now.objects ls)) c.in-Some.ensures
    (fields_there c.args.p.now e.0 c.in-Slot.slot c.in-Some.name c.args.heap.now.objects can.1 us c.pop_kept-value.result
    (left c.args.p.now c.args.i.now c.args.found.now c.in-Slot.class c.in-Slot.slot e.0 c.slot_kind.result c.pop_kept-value.result us c.args.heap.now.objects c.args.stack.now c.args.depth.now c.requires.row can c.in-Slot.is e.1 c.slot_kind.ensures (c.pop_kept-value.ensures.kept c.args.heap.now.objects can.1)) c.in-Some.ensures)
    (slot_written c.args.heap.now.objects c.in-Some.name c.in-Slot.slot c.pop_kept-value.result c.args.heap.now c.set_slot.new.self refl c.set_slot.ensures) c.pop.ensures.popped)
