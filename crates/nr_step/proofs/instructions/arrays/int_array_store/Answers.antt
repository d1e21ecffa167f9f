use Rattle.std.proofs.Common.{◌≡◌, ◌∙◌, ◌<◌, ◌∷◌, ℕ, List, length, Option, Some, None, sym, subst, ap₂, refl, of_z, to_z, w32, SFits, rules, IsSome}
use Rattle.std.proofs.lemmas.Int.{to_z-of_z}
use Rattle.nr_linked.specs.ArrayKinds.{elements_of}
use Rattle.nr_step.proofs.ArrayStores.{base_seen, element_array, element_asks, int_kept, int_over, int_written, int_store_next, int_store_rule, int_store_top, int_stored, ints_of, keeps_element, kept_int, slot_written, store_leads, store_null, store_out}
use Rattle.nr_step.proofs.Divisions.{what}
use Rattle.nr_model.specs.declared.value.Value.{Value}
use Rattle.nr_model.specs.declared.value.Value.TheVariants.{Int}
use Rattle.nr_model.specs.Scripts.{Runs, WriteSlot}
use Rattle.nr_heap.specs.Contents.{IsOfKind}
use Rattle.nr_step.specs.Elements.{place_of}
use Rattle.nr_step.specs.Instructions.{doing}
use Rattle.nr_step.specs.Windows.{top_first, view, window}
use Rattle.nr_step.proofs.ArrayRules.{held, len_is, place_there, same_number}
use Rattle.nr_step.proofs.Rows.{begin_by, go_on_by}
use Rattle.nr_step.proofs.instructions.arrays.int_array_store.Goals as goal

pub pop_int-value-requires-clause-some : goal.pop_int-value-requires-clause-some
pop_int-value-requires-clause-some c =
    let q = what (elements_of c.args.code) c.requires.elements in
    let can = c.requires.can in
    let b = begin_by c.args.p.now can.0 c.args.i.now can.1 (window c.args.heap.now.objects can.2 c.args.stack.now c.args.depth.now) (length c.args.stack.now) (int_stored c.args.p.now q.0) (int_store_rule c.args.p.now can.0 c.args.i.now can.1 c.args.code q.0 c.requires.row c.requires.code q.1) can.3 in
    int_store_top c.args.p.now q.0 c.args.heap.now.objects can.2 (top_first c.args.stack.now c.args.depth.now) b

pub pop_int-index-requires-clause-some : goal.pop_int-index-requires-clause-some
pop_int-index-requires-clause-some c =
    let q = what (elements_of c.args.code) c.requires.elements in
    let can = c.requires.can in
    let b = begin_by c.args.p.now can.0 c.args.i.now can.1 (window c.args.heap.now.objects can.2 c.args.stack.now c.args.depth.now) (length c.args.stack.now) (int_stored c.args.p.now q.0) (int_store_rule c.args.p.now can.0 c.args.i.now can.1 c.args.code q.0 c.requires.row c.requires.code q.1) can.3 in
    int_store_next c.args.p.now q.0 c.pop_int-value.result c.args.heap.now.objects can.2 (top_first c.args.stack.now c.args.depth.now) (top_first c.args.stack.now c.pop_int-value.new.depth) b c.pop_int-value.ensures.popped

pub reference_at-requires-clause-some : goal.reference_at-requires-clause-some
reference_at-requires-clause-some c =
    let q = what (elements_of c.args.code) c.requires.elements in
    let can = c.requires.can in
    let b = begin_by c.args.p.now can.0 c.args.i.now can.1 (window c.args.heap.now.objects can.2 c.args.stack.now c.args.depth.now) (length c.args.stack.now) (int_stored c.args.p.now q.0) (int_store_rule c.args.p.now can.0 c.args.i.now can.1 c.args.code q.0 c.requires.row c.requires.code q.1) can.3 in
    let rest : List Value = top_first c.args.stack.now c.pop_int-index.new.depth in
    let x = (int_over c.args.p.now q.0 c.pop_int-value.result c.pop_int-index.result (top_first c.args.stack.now c.args.depth.now) (top_first c.args.stack.now c.pop_int-value.new.depth) rest c.pop_int-value.ensures.popped c.pop_int-index.ensures.popped b.0 c.args.heap.now.objects can.2 b.1 b.2).0 b.3 in
    element_asks c.args.p.now 0 q.0 c.pop_int-index.result (kept_int c.pop_int-value.result b.0) c.args.heap.now.objects can.2 rest b.1 b.2 x

pub returns-in_default-clause-went : goal.returns-in_default-clause-went
returns-in_default-clause-went c = λ own found ls.
    let q = what (elements_of c.args.code) c.requires.elements in
    store_null c.throw_object.result c.args.p.now (doing c.args.p.now own c.args.i.now found) (int_stored c.args.p.now q.0) 0 q.0 (λ s. kept_int c.pop_int-value.result s) c.pop_int-index.result c.args.heap.now.objects c.throw_object.new.heap.objects ls (top_first c.args.stack.now c.args.depth.now) (top_first c.args.stack.now c.pop_int-index.new.depth) c.throw_object.new.told
    (int_over c.args.p.now q.0 c.pop_int-value.result c.pop_int-index.result (top_first c.args.stack.now c.args.depth.now) (top_first c.args.stack.now c.pop_int-value.new.depth) (top_first c.args.stack.now c.pop_int-index.new.depth) c.pop_int-value.ensures.popped c.pop_int-index.ensures.popped) c.in_default.ensures (int_store_rule c.args.p.now own c.args.i.now found c.args.code q.0 c.requires.row c.requires.code q.1) c.throw_object.ensures

pub len_of-requires : goal.len_of-requires
len_of-requires c =
    let q = what (elements_of c.args.code) c.requires.elements in
    let can = c.requires.can in
    let b = begin_by c.args.p.now can.0 c.args.i.now can.1 (window c.args.heap.now.objects can.2 c.args.stack.now c.args.depth.now) (length c.args.stack.now) (int_stored c.args.p.now q.0) (int_store_rule c.args.p.now can.0 c.args.i.now can.1 c.args.code q.0 c.requires.row c.requires.code q.1) can.3 in
    let rest : List Value = top_first c.args.stack.now c.pop_int-index.new.depth in
    let x = (int_over c.args.p.now q.0 c.pop_int-value.result c.pop_int-index.result (top_first c.args.stack.now c.args.depth.now) (top_first c.args.stack.now c.pop_int-value.new.depth) rest c.pop_int-value.ensures.popped c.pop_int-index.ensures.popped b.0 c.args.heap.now.objects can.2 b.1 b.2).0 b.3 in
    let y = element_array c.args.p.now 0 q.0 c.pop_int-index.result (kept_int c.pop_int-value.result b.0) c.in-Some.name c.args.heap.now.objects can.2 rest b.1 b.2 c.in-Some.ensures x in
    held c.args.heap.now.objects c.in-Some.name q.0 y (λ o. Unit {0}) y tt

pub unwrap-len-requires : goal.unwrap-len-requires
unwrap-len-requires c =
    let q = what (elements_of c.args.code) c.requires.elements in
    let can = c.requires.can in
    let b = begin_by c.args.p.now can.0 c.args.i.now can.1 (window c.args.heap.now.objects can.2 c.args.stack.now c.args.depth.now) (length c.args.stack.now) (int_stored c.args.p.now q.0) (int_store_rule c.args.p.now can.0 c.args.i.now can.1 c.args.code q.0 c.requires.row c.requires.code q.1) can.3 in
    let rest : List Value = top_first c.args.stack.now c.pop_int-index.new.depth in
    let x = (int_over c.args.p.now q.0 c.pop_int-value.result c.pop_int-index.result (top_first c.args.stack.now c.args.depth.now) (top_first c.args.stack.now c.pop_int-value.new.depth) rest c.pop_int-value.ensures.popped c.pop_int-index.ensures.popped b.0 c.args.heap.now.objects can.2 b.1 b.2).0 b.3 in
    let y = element_array c.args.p.now 0 q.0 c.pop_int-index.result (kept_int c.pop_int-value.result b.0) c.in-Some.name c.args.heap.now.objects can.2 rest b.1 b.2 c.in-Some.ensures x in
    subst (λ r. IsSome r) (sym (len_is c.args.heap.now.objects c.in-Some.name q.0 y c.len_of.result c.len_of.ensures)) refl

pub returns-in_default-place_within-clause-went : goal.returns-in_default-place_within-clause-went
returns-in_default-place_within-clause-went c = λ own found ls.
    let q = what (elements_of c.args.code) c.requires.elements in
    let can = c.requires.can in
    let b = begin_by c.args.p.now can.0 c.args.i.now can.1 (window c.args.heap.now.objects can.2 c.args.stack.now c.args.depth.now) (length c.args.stack.now) (int_stored c.args.p.now q.0) (int_store_rule c.args.p.now can.0 c.args.i.now can.1 c.args.code q.0 c.requires.row c.requires.code q.1) can.3 in
    let rest : List Value = top_first c.args.stack.now c.pop_int-index.new.depth in
    let x = (int_over c.args.p.now q.0 c.pop_int-value.result c.pop_int-index.result (top_first c.args.stack.now c.args.depth.now) (top_first c.args.stack.now c.pop_int-value.new.depth) rest c.pop_int-value.ensures.popped c.pop_int-index.ensures.popped b.0 c.args.heap.now.objects can.2 b.1 b.2).0 b.3 in
    let y = element_array c.args.p.now 0 q.0 c.pop_int-index.result (kept_int c.pop_int-value.result b.0) c.in-Some.name c.args.heap.now.objects can.2 rest b.1 b.2 c.in-Some.ensures x in
    let n = same_number c.len_of.result c.unwrap-len.result (length y.object.slots) c.unwrap-len.ensures (len_is c.args.heap.now.objects c.in-Some.name q.0 y c.len_of.result c.len_of.ensures) in
    let fits : SFits w32 c.pop_int-index.result = search rules in
    let same : (o : Option ℕ) → o ≡ place_of (to_z w32 (of_z w32 c.pop_int-index.result)) c.unwrap-len.result → place_of c.pop_int-index.result (length y.object.slots) ≡ o =
    λ o e. ap₂ place_of (sym (to_z-of_z w32 c.pop_int-index.result fits)) (sym n) ∙ sym e in
    store_out c.throw_object-in_default-place_within.result c.args.p.now (doing c.args.p.now own c.args.i.now found) (int_stored c.args.p.now q.0) 0 q.0 (λ s. kept_int c.pop_int-value.result s) c.pop_int-index.result c.in-Some.name c.args.heap.now.objects c.throw_object-in_default-place_within.new.heap.objects ls (top_first c.args.stack.now c.args.depth.now) rest c.throw_object-in_default-place_within.new.told
    (int_over c.args.p.now q.0 c.pop_int-value.result c.pop_int-index.result (top_first c.args.stack.now c.args.depth.now) (top_first c.args.stack.now c.pop_int-value.new.depth) (top_first c.args.stack.now c.pop_int-index.new.depth) c.pop_int-value.ensures.popped c.pop_int-index.ensures.popped) c.in-Some.ensures y (same None c.in_default-place_within.ensures) (int_store_rule c.args.p.now own c.args.i.now found c.args.code q.0 c.requires.row c.requires.code q.1) c.throw_object-in_default-place_within.ensures

pub kind_of-requires : goal.kind_of-requires
kind_of-requires c =
    let q = what (elements_of c.args.code) c.requires.elements in
    let can = c.requires.can in
    let b = begin_by c.args.p.now can.0 c.args.i.now can.1 (window c.args.heap.now.objects can.2 c.args.stack.now c.args.depth.now) (length c.args.stack.now) (int_stored c.args.p.now q.0) (int_store_rule c.args.p.now can.0 c.args.i.now can.1 c.args.code q.0 c.requires.row c.requires.code q.1) can.3 in
    let rest : List Value = top_first c.args.stack.now c.pop_int-index.new.depth in
    let x = (int_over c.args.p.now q.0 c.pop_int-value.result c.pop_int-index.result (top_first c.args.stack.now c.args.depth.now) (top_first c.args.stack.now c.pop_int-value.new.depth) rest c.pop_int-value.ensures.popped c.pop_int-index.ensures.popped b.0 c.args.heap.now.objects can.2 b.1 b.2).0 b.3 in
    let y = element_array c.args.p.now 0 q.0 c.pop_int-index.result (kept_int c.pop_int-value.result b.0) c.in-Some.name c.args.heap.now.objects can.2 rest b.1 b.2 c.in-Some.ensures x in
    held c.args.heap.now.objects c.in-Some.name q.0 y (λ o. Unit {0}) y tt

pub set_slot-requires-clause-slot : goal.set_slot-requires-clause-slot
set_slot-requires-clause-slot c =
    let q = what (elements_of c.args.code) c.requires.elements in
    let can = c.requires.can in
    let b = begin_by c.args.p.now can.0 c.args.i.now can.1 (window c.args.heap.now.objects can.2 c.args.stack.now c.args.depth.now) (length c.args.stack.now) (int_stored c.args.p.now q.0) (int_store_rule c.args.p.now can.0 c.args.i.now can.1 c.args.code q.0 c.requires.row c.requires.code q.1) can.3 in
    let rest : List Value = top_first c.args.stack.now c.pop_int-index.new.depth in
    let x = (int_over c.args.p.now q.0 c.pop_int-value.result c.pop_int-index.result (top_first c.args.stack.now c.args.depth.now) (top_first c.args.stack.now c.pop_int-value.new.depth) rest c.pop_int-value.ensures.popped c.pop_int-index.ensures.popped b.0 c.args.heap.now.objects can.2 b.1 b.2).0 b.3 in
    let y = element_array c.args.p.now 0 q.0 c.pop_int-index.result (kept_int c.pop_int-value.result b.0) c.in-Some.name c.args.heap.now.objects can.2 rest b.1 b.2 c.in-Some.ensures x in
    let n = same_number c.len_of.result c.unwrap-len.result (length y.object.slots) c.unwrap-len.ensures (len_is c.args.heap.now.objects c.in-Some.name q.0 y c.len_of.result c.len_of.ensures) in
    let fits : SFits w32 c.pop_int-index.result = search rules in
    let same : (o : Option ℕ) → o ≡ place_of (to_z w32 (of_z w32 c.pop_int-index.result)) c.unwrap-len.result → place_of c.pop_int-index.result (length y.object.slots) ≡ o =
    λ o e. ap₂ place_of (sym (to_z-of_z w32 c.pop_int-index.result fits)) (sym n) ∙ sym e in
    held c.args.heap.now.objects c.in-Some.name q.0 y (λ o. c.in-Some-place_within.place < length o.slots) y (place_there c.pop_int-index.result (length y.object.slots) c.in-Some-place_within.place (same (Some c.in-Some-place_within.place) c.in-Some-place_within.ensures))

pub set_slot-requires-clause-keeps : goal.set_slot-requires-clause-keeps
set_slot-requires-clause-keeps c =
    let q = what (elements_of c.args.code) c.requires.elements in
    let can = c.requires.can in
    let b = begin_by c.args.p.now can.0 c.args.i.now can.1 (window c.args.heap.now.objects can.2 c.args.stack.now c.args.depth.now) (length c.args.stack.now) (int_stored c.args.p.now q.0) (int_store_rule c.args.p.now can.0 c.args.i.now can.1 c.args.code q.0 c.requires.row c.requires.code q.1) can.3 in
    let rest : List Value = top_first c.args.stack.now c.pop_int-index.new.depth in
    let x = (int_over c.args.p.now q.0 c.pop_int-value.result c.pop_int-index.result (top_first c.args.stack.now c.args.depth.now) (top_first c.args.stack.now c.pop_int-value.new.depth) rest c.pop_int-value.ensures.popped c.pop_int-index.ensures.popped b.0 c.args.heap.now.objects can.2 b.1 b.2).0 b.3 in
    let y = element_array c.args.p.now 0 q.0 c.pop_int-index.result (kept_int c.pop_int-value.result b.0) c.in-Some.name c.args.heap.now.objects can.2 rest b.1 b.2 c.in-Some.ensures x in
    let fk : SFits w32 c.narrow-kept.result = search rules in
    let fv : SFits w32 c.pop_int-value.result = search rules in
    let e = int_written c.narrow-kept.result c.pop_int-value.result y.element.base c.kind_of.result.base fk fv c.narrow-kept.ensures (base_seen c.args.heap.now.objects c.in-Some.name q.0 y c.kind_of.result c.kind_of.ensures) in
    keeps_element c.args.heap.now.objects c.in-Some.name q.0 y (Int (to_z w32 (of_z w32 c.narrow-kept.result))) (subst (λ v. IsOfKind y.element v) (sym e) (int_kept q.0 y.element c.pop_int-value.result (ints_of c.args.code q.0 c.requires.ints q.1) y.fits))

pub returns-clause-went : goal.returns-clause-went
returns-clause-went c = λ own found ls.
    let q = what (elements_of c.args.code) c.requires.elements in
    let can = c.requires.can in
    let b = begin_by c.args.p.now can.0 c.args.i.now can.1 (window c.args.heap.now.objects can.2 c.args.stack.now c.args.depth.now) (length c.args.stack.now) (int_stored c.args.p.now q.0) (int_store_rule c.args.p.now can.0 c.args.i.now can.1 c.args.code q.0 c.requires.row c.requires.code q.1) can.3 in
    let rest : List Value = top_first c.args.stack.now c.pop_int-index.new.depth in
    let x = (int_over c.args.p.now q.0 c.pop_int-value.result c.pop_int-index.result (top_first c.args.stack.now c.args.depth.now) (top_first c.args.stack.now c.pop_int-value.new.depth) rest c.pop_int-value.ensures.popped c.pop_int-index.ensures.popped b.0 c.args.heap.now.objects can.2 b.1 b.2).0 b.3 in
    let y = element_array c.args.p.now 0 q.0 c.pop_int-index.result (kept_int c.pop_int-value.result b.0) c.in-Some.name c.args.heap.now.objects can.2 rest b.1 b.2 c.in-Some.ensures x in
    let n = same_number c.len_of.result c.unwrap-len.result (length y.object.slots) c.unwrap-len.ensures (len_is c.args.heap.now.objects c.in-Some.name q.0 y c.len_of.result c.len_of.ensures) in
    let fits : SFits w32 c.pop_int-index.result = search rules in
    let same : (o : Option ℕ) → o ≡ place_of (to_z w32 (of_z w32 c.pop_int-index.result)) c.unwrap-len.result → place_of c.pop_int-index.result (length y.object.slots) ≡ o =
    λ o e. ap₂ place_of (sym (to_z-of_z w32 c.pop_int-index.result fits)) (sym n) ∙ sym e in
    let fk : SFits w32 c.narrow-kept.result = search rules in
    let fv : SFits w32 c.pop_int-value.result = search rules in
    let e = int_written c.narrow-kept.result c.pop_int-value.result y.element.base c.kind_of.result.base fk fv c.narrow-kept.ensures (base_seen c.args.heap.now.objects c.in-Some.name q.0 y c.kind_of.result c.kind_of.ensures) in
    let vs : List Value = top_first c.args.stack.now c.args.depth.now in
    let us : List Value = top_first c.args.stack.now c.pop.new.depth in
    go_on_by c.args.p.now own c.args.i.now found (window c.args.heap.now.objects ls c.args.stack.now c.args.depth.now) (window c.set_slot.new.self.objects ls c.args.stack.now c.pop.new.depth) (int_stored c.args.p.now q.0) (int_store_rule c.args.p.now own c.args.i.now found c.args.code q.0 c.requires.row c.requires.code q.1)
    (store_leads c.args.p.now (int_stored c.args.p.now q.0) q.0 (λ s. kept_int c.pop_int-value.result s) c.pop_int-index.result c.in-Some.name c.in-Some-place_within.place c.args.heap.now.objects c.set_slot.new.self.objects ls vs rest us c.pop.result (Int (to_z w32 (of_z w32 c.narrow-kept.result)))
    (int_over c.args.p.now q.0 c.pop_int-value.result c.pop_int-index.result vs (top_first c.args.stack.now c.pop_int-value.new.depth) rest c.pop_int-value.ensures.popped c.pop_int-index.ensures.popped) c.in-Some.ensures y (same (Some c.in-Some-place_within.place) c.in-Some-place_within.ensures)
    (λ s e2 u r. subst (λ n. Runs (WriteSlot c.in-Some-place_within.place s) (view c.args.heap.now.objects ls (n ∷ rest)) e2 u) e r) c.pop.ensures.popped
    (slot_written c.args.heap.now.objects c.in-Some.name c.in-Some-place_within.place (Int (to_z w32 (of_z w32 c.narrow-kept.result))) c.args.heap.now c.set_slot.new.self refl c.set_slot.ensures))
