use Rattle.std.proofs.Common.{◌≡◌, ◌∙◌, ◌∷◌, ℕ, ℤ, List, length, Option, Some, None, sym, subst, ap, ap₂, refl, of_z, to_z, w32, SFits, rules, IsSome}
use Rattle.std.proofs.lemmas.Int.{to_z-of_z}
use Rattle.nr_linked.specs.ArrayKinds.{References}
use Rattle.nr_linked.specs.declared.program.kind.Kind.{Kind}
use Rattle.nr_linked.specs.declared.program.tables.ProgramTables.{ProgramTables}
use Rattle.nr_prog.specs.declared.body.instruction.Instr.{Instr}
use Rattle.nr_model.specs.declared.value.Value.{Value}
use Rattle.nr_model.specs.declared.value.Value.TheVariants.{Int}
use Rattle.nr_model.specs.Heaps.{Heap}
use Rattle.nr_step.specs.Elements.{may_stand, place_of}
use Rattle.nr_step.specs.Instructions.{CanReach, IsRowOf, doing}
use Rattle.nr_step.specs.Windows.{CanBegin, reference_to, top_first, window}
use Rattle.nr_step.proofs.ArrayRules.{held, len_is, same_number}
use Rattle.nr_step.proofs.ArrayStores.{keeps_element, slot_written, store_null, store_out}
use Rattle.nr_step.proofs.ReferenceStores.{AtPlace, array_asks, array_at, array_below, element_below, index_begins, index_there, stored_at, kept_reference, reference_kept, reference_leads, reference_over, reference_store_rule, reference_stored, store_refused, value_asks, value_is_there, value_there}
use Rattle.nr_step.proofs.Rows.{begin_by, go_on_by}
use Rattle.nr_step.proofs.instructions.arrays.aastore.Goals as goal

begun : (P : ProgramTables) (i : Instr) (h : Heap) (s : List Value) (d : ℕ) → IsRowOf 83 i.row → (can : CanReach P i h s d) → CanBegin (reference_stored P) (window h can.2 s d)
begun P i h s d r can = begin_by P can.0 i can.1 (window h can.2 s d) (length s) (reference_stored P) (reference_store_rule P can.0 i can.1 r) can.3

pub pop-value-requires-clause-some : goal.pop-value-requires-clause-some
pop-value-requires-clause-some c = value_there c.args.p.now c.args.heap.now.objects c.requires.can.2 c.args.stack.now c.args.depth.now (begun c.args.p.now c.args.i.now c.args.heap.now.objects c.args.stack.now c.args.depth.now c.requires.row c.requires.can)

pub pop_int-index-requires-clause-some : goal.pop_int-index-requires-clause-some
pop_int-index-requires-clause-some c =
    index_there c.args.p.now c.pop-value.result c.args.heap.now.objects c.requires.can.2 (top_first c.args.stack.now c.args.depth.now) (top_first c.args.stack.now c.pop-value.new.depth)
    (begun c.args.p.now c.args.i.now c.args.heap.now.objects c.args.stack.now c.args.depth.now c.requires.row c.requires.can) c.pop-value.ensures.popped

found_by : (P : ProgramTables) (i : Instr) (h : Heap) (s : List Value) (d : ℕ) (v : Value) (z : ℤ) (us rest : List Value) → IsRowOf 83 i.row → (can : CanReach P i h s d) → top_first s d ≡ v ∷ us → us ≡ Int z ∷ rest → CanBegin (stored_at P z) (window h can.2 s d)
found_by P i h s d v z us rest r can p q = index_begins P v z h can.2 (top_first s d) us rest (begun P i h s d r can) p q

pub reference_at-requires-clause-some : goal.reference_at-requires-clause-some
reference_at-requires-clause-some c =
    let can = c.requires.can in
    let vs : List Value = top_first c.args.stack.now c.args.depth.now in
    let us : List Value = top_first c.args.stack.now c.pop-value.new.depth in
    let rest : List Value = top_first c.args.stack.now c.pop_int-index.new.depth in
    let f = found_by c.args.p.now c.args.i.now c.args.heap.now.objects c.args.stack.now c.args.depth.now c.pop-value.result c.pop_int-index.result us rest c.requires.row can c.pop-value.ensures.popped c.pop_int-index.ensures.popped in
    array_asks c.args.p.now c.pop-value.result c.pop_int-index.result c.args.heap.now.objects can.2 vs us rest f c.pop-value.ensures.popped c.pop_int-index.ensures.popped

pub returns-in_default-clause-went : goal.returns-in_default-clause-went
returns-in_default-clause-went c = λ own found ls.
    let vs : List Value = top_first c.args.stack.now c.args.depth.now in
    let us : List Value = top_first c.args.stack.now c.pop-value.new.depth in
    let rest : List Value = top_first c.args.stack.now c.pop_int-index.new.depth in
    store_null c.throw_object.result c.args.p.now (doing c.args.p.now own c.args.i.now found) (reference_stored c.args.p.now) 2 References (kept_reference c.args.p.now) c.pop_int-index.result c.args.heap.now.objects c.throw_object.new.heap.objects ls vs vs c.throw_object.new.told
    (reference_over c.args.p.now c.pop-value.result c.pop_int-index.result vs us rest c.pop-value.ensures.popped c.pop_int-index.ensures.popped)
    (array_below c.pop-value.result c.pop_int-index.result vs us rest (Some (reference_to None)) c.pop-value.ensures.popped c.pop_int-index.ensures.popped c.in_default.ensures) (reference_store_rule c.args.p.now own c.args.i.now found c.requires.row) c.throw_object.ensures

pub len_of-requires : goal.len_of-requires
len_of-requires c =
    let can = c.requires.can in
    let vs : List Value = top_first c.args.stack.now c.args.depth.now in
    let us : List Value = top_first c.args.stack.now c.pop-value.new.depth in
    let rest : List Value = top_first c.args.stack.now c.pop_int-index.new.depth in
    let f = found_by c.args.p.now c.args.i.now c.args.heap.now.objects c.args.stack.now c.args.depth.now c.pop-value.result c.pop_int-index.result us rest c.requires.row can c.pop-value.ensures.popped c.pop_int-index.ensures.popped in
    let named = array_below c.pop-value.result c.pop_int-index.result vs us rest (Some (reference_to (Some c.in-Some.name))) c.pop-value.ensures.popped c.pop_int-index.ensures.popped c.in-Some.ensures in
    let y = array_at c.args.p.now c.pop_int-index.result c.in-Some.name c.args.heap.now.objects can.2 vs f named in
    held c.args.heap.now.objects c.in-Some.name References y (λ o. Unit {0}) y tt

pub unwrap-len-requires : goal.unwrap-len-requires
unwrap-len-requires c =
    let can = c.requires.can in
    let vs : List Value = top_first c.args.stack.now c.args.depth.now in
    let us : List Value = top_first c.args.stack.now c.pop-value.new.depth in
    let rest : List Value = top_first c.args.stack.now c.pop_int-index.new.depth in
    let f = found_by c.args.p.now c.args.i.now c.args.heap.now.objects c.args.stack.now c.args.depth.now c.pop-value.result c.pop_int-index.result us rest c.requires.row can c.pop-value.ensures.popped c.pop_int-index.ensures.popped in
    let named = array_below c.pop-value.result c.pop_int-index.result vs us rest (Some (reference_to (Some c.in-Some.name))) c.pop-value.ensures.popped c.pop_int-index.ensures.popped c.in-Some.ensures in
    let y = array_at c.args.p.now c.pop_int-index.result c.in-Some.name c.args.heap.now.objects can.2 vs f named in
    subst (λ r. IsSome r) (sym (len_is c.args.heap.now.objects c.in-Some.name References y c.len_of.result c.len_of.ensures)) refl

pub returns-in_default-place_within-clause-went : goal.returns-in_default-place_within-clause-went
returns-in_default-place_within-clause-went c = λ own found ls.
    let can = c.requires.can in
    let vs : List Value = top_first c.args.stack.now c.args.depth.now in
    let us : List Value = top_first c.args.stack.now c.pop-value.new.depth in
    let rest : List Value = top_first c.args.stack.now c.pop_int-index.new.depth in
    let f = found_by c.args.p.now c.args.i.now c.args.heap.now.objects c.args.stack.now c.args.depth.now c.pop-value.result c.pop_int-index.result us rest c.requires.row can c.pop-value.ensures.popped c.pop_int-index.ensures.popped in
    let named = array_below c.pop-value.result c.pop_int-index.result vs us rest (Some (reference_to (Some c.in-Some.name))) c.pop-value.ensures.popped c.pop_int-index.ensures.popped c.in-Some.ensures in
    let y = array_at c.args.p.now c.pop_int-index.result c.in-Some.name c.args.heap.now.objects can.2 vs f named in
    let n = same_number c.len_of.result c.unwrap-len.result (length y.object.slots) c.unwrap-len.ensures (len_is c.args.heap.now.objects c.in-Some.name References y c.len_of.result c.len_of.ensures) in
    let fits : SFits w32 c.pop_int-index.result = search rules in
    let same : (o : Option ℕ) → o ≡ place_of (to_z w32 (of_z w32 c.pop_int-index.result)) c.unwrap-len.result → place_of c.pop_int-index.result (length y.object.slots) ≡ o =
    λ o e. ap₂ place_of (sym (to_z-of_z w32 c.pop_int-index.result fits)) (sym n) ∙ sym e in
    store_out c.throw_object-in_default-place_within.result c.args.p.now (doing c.args.p.now own c.args.i.now found) (reference_stored c.args.p.now) 2 References (kept_reference c.args.p.now) c.pop_int-index.result c.in-Some.name c.args.heap.now.objects c.throw_object-in_default-place_within.new.heap.objects ls vs vs c.throw_object-in_default-place_within.new.told
    (reference_over c.args.p.now c.pop-value.result c.pop_int-index.result vs us rest c.pop-value.ensures.popped c.pop_int-index.ensures.popped) named y (same None c.in_default-place_within.ensures) (reference_store_rule c.args.p.now own c.args.i.now found c.requires.row) c.throw_object-in_default-place_within.ensures

pub reference_at-requires-2-clause-some : goal.reference_at-requires-2-clause-some
reference_at-requires-2-clause-some c =
    let can = c.requires.can in
    let vs : List Value = top_first c.args.stack.now c.args.depth.now in
    let us : List Value = top_first c.args.stack.now c.pop-value.new.depth in
    let rest : List Value = top_first c.args.stack.now c.pop_int-index.new.depth in
    let f = found_by c.args.p.now c.args.i.now c.args.heap.now.objects c.args.stack.now c.args.depth.now c.pop-value.result c.pop_int-index.result us rest c.requires.row can c.pop-value.ensures.popped c.pop_int-index.ensures.popped in
    let named = array_below c.pop-value.result c.pop_int-index.result vs us rest (Some (reference_to (Some c.in-Some.name))) c.pop-value.ensures.popped c.pop_int-index.ensures.popped c.in-Some.ensures in
    let y = array_at c.args.p.now c.pop_int-index.result c.in-Some.name c.args.heap.now.objects can.2 vs f named in
    let n = same_number c.len_of.result c.unwrap-len.result (length y.object.slots) c.unwrap-len.ensures (len_is c.args.heap.now.objects c.in-Some.name References y c.len_of.result c.len_of.ensures) in
    let fits : SFits w32 c.pop_int-index.result = search rules in
    let same : (o : Option ℕ) → o ≡ place_of (to_z w32 (of_z w32 c.pop_int-index.result)) c.unwrap-len.result → place_of c.pop_int-index.result (length y.object.slots) ≡ o =
    λ o e. ap₂ place_of (sym (to_z-of_z w32 c.pop_int-index.result fits)) (sym n) ∙ sym e in
    let within = same (Some c.in-Some-place_within.place) c.in-Some-place_within.ensures in
    let x : AtPlace c.args.p.now c.args.heap.now.objects can.2 vs c.pop_int-index.result c.in-Some.name c.in-Some-place_within.place = record { array = y; named = named; place = within; begun = f } in
    value_asks c.args.p.now c.args.heap.now.objects can.2 vs c.pop_int-index.result c.in-Some.name c.in-Some-place_within.place x

pub may_stand-requires : goal.may_stand-requires
may_stand-requires c =
    let can = c.requires.can in
    let vs : List Value = top_first c.args.stack.now c.args.depth.now in
    let us : List Value = top_first c.args.stack.now c.pop-value.new.depth in
    let rest : List Value = top_first c.args.stack.now c.pop_int-index.new.depth in
    let f = found_by c.args.p.now c.args.i.now c.args.heap.now.objects c.args.stack.now c.args.depth.now c.pop-value.result c.pop_int-index.result us rest c.requires.row can c.pop-value.ensures.popped c.pop_int-index.ensures.popped in
    let named = array_below c.pop-value.result c.pop_int-index.result vs us rest (Some (reference_to (Some c.in-Some.name))) c.pop-value.ensures.popped c.pop_int-index.ensures.popped c.in-Some.ensures in
    let y = array_at c.args.p.now c.pop_int-index.result c.in-Some.name c.args.heap.now.objects can.2 vs f named in
    let n = same_number c.len_of.result c.unwrap-len.result (length y.object.slots) c.unwrap-len.ensures (len_is c.args.heap.now.objects c.in-Some.name References y c.len_of.result c.len_of.ensures) in
    let fits : SFits w32 c.pop_int-index.result = search rules in
    let same : (o : Option ℕ) → o ≡ place_of (to_z w32 (of_z w32 c.pop_int-index.result)) c.unwrap-len.result → place_of c.pop_int-index.result (length y.object.slots) ≡ o =
    λ o e. ap₂ place_of (sym (to_z-of_z w32 c.pop_int-index.result fits)) (sym n) ∙ sym e in
    let within = same (Some c.in-Some-place_within.place) c.in-Some-place_within.ensures in
    let x : AtPlace c.args.p.now c.args.heap.now.objects can.2 vs c.pop_int-index.result c.in-Some.name c.in-Some-place_within.place = record { array = y; named = named; place = within; begun = f } in
    value_is_there c.args.p.now c.args.heap.now.objects can.2 vs c.pop_int-index.result c.in-Some.name c.in-Some-place_within.place c.reference_at-2.result x c.reference_at-2.ensures

pub returns-then-not-may_stand-clause-went : goal.returns-then-not-may_stand-clause-went
returns-then-not-may_stand-clause-went c = λ own found ls.
    let can = c.requires.can in
    let vs : List Value = top_first c.args.stack.now c.args.depth.now in
    let us : List Value = top_first c.args.stack.now c.pop-value.new.depth in
    let rest : List Value = top_first c.args.stack.now c.pop_int-index.new.depth in
    let f = found_by c.args.p.now c.args.i.now c.args.heap.now.objects c.args.stack.now c.args.depth.now c.pop-value.result c.pop_int-index.result us rest c.requires.row can c.pop-value.ensures.popped c.pop_int-index.ensures.popped in
    let named = array_below c.pop-value.result c.pop_int-index.result vs us rest (Some (reference_to (Some c.in-Some.name))) c.pop-value.ensures.popped c.pop_int-index.ensures.popped c.in-Some.ensures in
    let y = array_at c.args.p.now c.pop_int-index.result c.in-Some.name c.args.heap.now.objects can.2 vs f named in
    let n = same_number c.len_of.result c.unwrap-len.result (length y.object.slots) c.unwrap-len.ensures (len_is c.args.heap.now.objects c.in-Some.name References y c.len_of.result c.len_of.ensures) in
    let fits : SFits w32 c.pop_int-index.result = search rules in
    let same : (o : Option ℕ) → o ≡ place_of (to_z w32 (of_z w32 c.pop_int-index.result)) c.unwrap-len.result → place_of c.pop_int-index.result (length y.object.slots) ≡ o =
    λ o e. ap₂ place_of (sym (to_z-of_z w32 c.pop_int-index.result fits)) (sym n) ∙ sym e in
    let within = same (Some c.in-Some-place_within.place) c.in-Some-place_within.ensures in
    let x : AtPlace c.args.p.now c.args.heap.now.objects can.2 vs c.pop_int-index.result c.in-Some.name c.in-Some-place_within.place = record { array = y; named = named; place = within; begun = f } in
    let there = value_is_there c.args.p.now c.args.heap.now.objects can.2 vs c.pop_int-index.result c.in-Some.name c.in-Some-place_within.place c.reference_at-2.result x c.reference_at-2.ensures in
    let e = element_below c.args.heap.now.objects c.in-Some.name y c.kind_of-kind.result c.kind_of-kind.ensures in
    store_refused c.throw_object-then-not-may_stand.result c.args.p.now (doing c.args.p.now own c.args.i.now found) c.args.heap.now.objects c.throw_object-then-not-may_stand.new.heap.objects ls vs us rest c.pop-value.result c.pop_int-index.result c.in-Some.name c.in-Some-place_within.place c.reference_at-2.result y c.throw_object-then-not-may_stand.new.told
    c.pop-value.ensures.popped c.pop_int-index.ensures.popped named within c.reference_at-2.ensures there (ap (λ (k : Kind). may_stand c.args.p.now c.args.heap.now.objects k c.reference_at-2.result) e ∙ sym c.may_stand.ensures ∙ c.if-not-may_stand.true) (reference_store_rule c.args.p.now own c.args.i.now found c.requires.row) c.throw_object-then-not-may_stand.ensures

pub set_slot-requires-clause-keeps : goal.set_slot-requires-clause-keeps
set_slot-requires-clause-keeps c =
    let can = c.requires.can in
    let vs : List Value = top_first c.args.stack.now c.args.depth.now in
    let us : List Value = top_first c.args.stack.now c.pop-value.new.depth in
    let rest : List Value = top_first c.args.stack.now c.pop_int-index.new.depth in
    let f = found_by c.args.p.now c.args.i.now c.args.heap.now.objects c.args.stack.now c.args.depth.now c.pop-value.result c.pop_int-index.result us rest c.requires.row can c.pop-value.ensures.popped c.pop_int-index.ensures.popped in
    let named = array_below c.pop-value.result c.pop_int-index.result vs us rest (Some (reference_to (Some c.in-Some.name))) c.pop-value.ensures.popped c.pop_int-index.ensures.popped c.in-Some.ensures in
    let y = array_at c.args.p.now c.pop_int-index.result c.in-Some.name c.args.heap.now.objects can.2 vs f named in
    keeps_element c.args.heap.now.objects c.in-Some.name References y c.pop-value.result (reference_kept c.args.heap.now.objects c.in-Some.name y c.pop-value.result vs us c.reference_at-2.result c.pop-value.ensures.popped c.reference_at-2.ensures)

pub returns-clause-went : goal.returns-clause-went
returns-clause-went c = λ own found ls.
    let can = c.requires.can in
    let vs : List Value = top_first c.args.stack.now c.args.depth.now in
    let us : List Value = top_first c.args.stack.now c.pop-value.new.depth in
    let rest : List Value = top_first c.args.stack.now c.pop_int-index.new.depth in
    let f = found_by c.args.p.now c.args.i.now c.args.heap.now.objects c.args.stack.now c.args.depth.now c.pop-value.result c.pop_int-index.result us rest c.requires.row can c.pop-value.ensures.popped c.pop_int-index.ensures.popped in
    let named = array_below c.pop-value.result c.pop_int-index.result vs us rest (Some (reference_to (Some c.in-Some.name))) c.pop-value.ensures.popped c.pop_int-index.ensures.popped c.in-Some.ensures in
    let y = array_at c.args.p.now c.pop_int-index.result c.in-Some.name c.args.heap.now.objects can.2 vs f named in
    let n = same_number c.len_of.result c.unwrap-len.result (length y.object.slots) c.unwrap-len.ensures (len_is c.args.heap.now.objects c.in-Some.name References y c.len_of.result c.len_of.ensures) in
    let fits : SFits w32 c.pop_int-index.result = search rules in
    let same : (o : Option ℕ) → o ≡ place_of (to_z w32 (of_z w32 c.pop_int-index.result)) c.unwrap-len.result → place_of c.pop_int-index.result (length y.object.slots) ≡ o =
    λ o e. ap₂ place_of (sym (to_z-of_z w32 c.pop_int-index.result fits)) (sym n) ∙ sym e in
    let within = same (Some c.in-Some-place_within.place) c.in-Some-place_within.ensures in
    let x : AtPlace c.args.p.now c.args.heap.now.objects can.2 vs c.pop_int-index.result c.in-Some.name c.in-Some-place_within.place = record { array = y; named = named; place = within; begun = f } in
    let there = value_is_there c.args.p.now c.args.heap.now.objects can.2 vs c.pop_int-index.result c.in-Some.name c.in-Some-place_within.place c.reference_at-2.result x c.reference_at-2.ensures in
    let after : List Value = top_first c.args.stack.now c.pop.new.depth in
    let e = element_below c.args.heap.now.objects c.in-Some.name y c.kind_of-kind.result c.kind_of-kind.ensures in
    go_on_by c.args.p.now own c.args.i.now found (window c.args.heap.now.objects ls c.args.stack.now c.args.depth.now) (window c.set_slot.new.self.objects ls c.args.stack.now c.pop.new.depth) (reference_stored c.args.p.now) (reference_store_rule c.args.p.now own c.args.i.now found c.requires.row)
    (reference_leads c.args.p.now c.args.heap.now.objects c.set_slot.new.self.objects ls vs us rest after c.pop.result c.pop-value.result c.pop_int-index.result c.in-Some.name c.in-Some-place_within.place c.reference_at-2.result y c.pop-value.ensures.popped c.pop_int-index.ensures.popped c.pop.ensures.popped
    named within c.reference_at-2.ensures there (ap (λ (k : Kind). may_stand c.args.p.now c.args.heap.now.objects k c.reference_at-2.result) e ∙ sym c.may_stand.ensures ∙ c.if-not-may_stand.false) (slot_written c.args.heap.now.objects c.in-Some.name c.in-Some-place_within.place c.pop-value.result c.args.heap.now c.set_slot.new.self refl c.set_slot.ensures))
