use Rattle.std.proofs.Common.{◌≡◌, ◌∙◌, ℕ, ℤ, List, length, Option, Some, None, sym, subst, ap₂, refl, true, of_z, to_z, w32, SFits, rules, IsSome}
use Rattle.std.proofs.lemmas.Int.{to_z-of_z}
use Rattle.nr_linked.specs.ArrayKinds.{Elements, elements_of}
use Rattle.nr_linked.specs.declared.program.tables.ProgramTables.{ProgramTables}
use Rattle.nr_prog.specs.declared.body.instruction.Instr.{Instr}
use Rattle.nr_model.specs.declared.value.Value.{Value}
use Rattle.nr_model.specs.declared.value.Value.TheVariants.{Int}
use Rattle.nr_model.specs.Heaps.{Heap}
use Rattle.nr_model.specs.Scripts.{OnTop}
use Rattle.nr_step.specs.Elements.{place_of}
use Rattle.nr_step.specs.Instructions.{CanReach, IsRowOf, doing, is_array_load}
use Rattle.nr_step.specs.Windows.{CanBegin, top_first, window}
use Rattle.nr_step.proofs.ArrayRules.{LoadBegins, below_top, held, len_is, load_array, load_begins, load_leads, load_null, load_out, load_reference, load_rule, load_top, loads_of, same_number}
use Rattle.nr_step.proofs.Divisions.{what}
use Rattle.nr_step.proofs.Rows.{begin_by, go_on_by}
use Rattle.nr_step.proofs.instructions.arrays.array_load.Goals as goal

can_begin : (P : ProgramTables) (i : Instr) (code : ℕ) (el : Elements) (h : Heap) (s : List Value) (d : ℕ) → IsRowOf code i.row → is_array_load code ≡ true → elements_of code ≡ Some el → (can : CanReach P i h s d) → CanBegin (loads_of P el) (window h can.2 s d)
can_begin P i code el h s d r t q can = begin_by P can.0 i can.1 (window h can.2 s d) (length s) (loads_of P el) (load_rule P can.0 i can.1 code el r t q) can.3

begins : (P : ProgramTables) (i : Instr) (code : ℕ) (el : Elements) (h : Heap) (s : List Value) (d : ℕ) (x : ℤ) → IsRowOf code i.row → is_array_load code ≡ true → elements_of code ≡ Some el → (can : CanReach P i h s d)
    → OnTop (top_first s d) (λ v us. v ≡ Int x) → LoadBegins P el h can.2 (top_first s d) x
begins P i code el h s d x r t q can top = load_begins P el h can.2 (top_first s d) x (can_begin P i code el h s d r t q can) top

pub top_int-index-requires-clause-some : goal.top_int-index-requires-clause-some
top_int-index-requires-clause-some c =
    let q = what (elements_of c.args.code) c.requires.elements in
    load_top c.args.p.now q.0 c.args.heap.now.objects c.requires.can.2 (top_first c.args.stack.now c.args.depth.now) (can_begin c.args.p.now c.args.i.now c.args.code q.0 c.args.heap.now.objects c.args.stack.now c.args.depth.now c.requires.row c.requires.code q.1 c.requires.can)

pub reference_at-requires-clause-some : goal.reference_at-requires-clause-some
reference_at-requires-clause-some c =
    let q = what (elements_of c.args.code) c.requires.elements in
    let b = begins c.args.p.now c.args.i.now c.args.code q.0 c.args.heap.now.objects c.args.stack.now c.args.depth.now c.top_int-index.result c.requires.row c.requires.code q.1 c.requires.can c.top_int-index.ensures in
    load_reference c.args.p.now q.0 c.args.heap.now.objects c.requires.can.2 (top_first c.args.stack.now c.args.depth.now) c.top_int-index.result b

pub returns-in_default-clause-went : goal.returns-in_default-clause-went
returns-in_default-clause-went c = λ own found ls.
    let q = what (elements_of c.args.code) c.requires.elements in
    let b = begins c.args.p.now c.args.i.now c.args.code q.0 c.args.heap.now.objects c.args.stack.now c.args.depth.now c.top_int-index.result c.requires.row c.requires.code q.1 c.requires.can c.top_int-index.ensures in
    load_null c.throw_object.result c.args.p.now (doing c.args.p.now own c.args.i.now found) q.0 c.args.heap.now.objects c.throw_object.new.heap.objects ls (top_first c.args.stack.now c.args.depth.now) b.rest c.top_int-index.result c.throw_object.new.told b.is
    c.in_default.ensures (load_rule c.args.p.now own c.args.i.now found c.args.code q.0 c.requires.row c.requires.code q.1) c.throw_object.ensures

pub len_of-requires : goal.len_of-requires
len_of-requires c =
    let q = what (elements_of c.args.code) c.requires.elements in
    let b = begins c.args.p.now c.args.i.now c.args.code q.0 c.args.heap.now.objects c.args.stack.now c.args.depth.now c.top_int-index.result c.requires.row c.requires.code q.1 c.requires.can c.top_int-index.ensures in
    let y = load_array c.args.p.now q.0 c.args.heap.now.objects c.requires.can.2 (top_first c.args.stack.now c.args.depth.now) c.top_int-index.result c.in-Some.name b c.in-Some.ensures in
    held c.args.heap.now.objects c.in-Some.name q.0 y (λ o. Unit {0}) y tt

pub unwrap-len-requires : goal.unwrap-len-requires
unwrap-len-requires c =
    let q = what (elements_of c.args.code) c.requires.elements in
    let b = begins c.args.p.now c.args.i.now c.args.code q.0 c.args.heap.now.objects c.args.stack.now c.args.depth.now c.top_int-index.result c.requires.row c.requires.code q.1 c.requires.can c.top_int-index.ensures in
    let y = load_array c.args.p.now q.0 c.args.heap.now.objects c.requires.can.2 (top_first c.args.stack.now c.args.depth.now) c.top_int-index.result c.in-Some.name b c.in-Some.ensures in
    subst (λ r. IsSome r) (sym (len_is c.args.heap.now.objects c.in-Some.name q.0 y c.len_of.result c.len_of.ensures)) refl

pub returns-in_default-place_within-clause-went : goal.returns-in_default-place_within-clause-went
returns-in_default-place_within-clause-went c = λ own found ls.
    let q = what (elements_of c.args.code) c.requires.elements in
    let b = begins c.args.p.now c.args.i.now c.args.code q.0 c.args.heap.now.objects c.args.stack.now c.args.depth.now c.top_int-index.result c.requires.row c.requires.code q.1 c.requires.can c.top_int-index.ensures in
    let y = load_array c.args.p.now q.0 c.args.heap.now.objects c.requires.can.2 (top_first c.args.stack.now c.args.depth.now) c.top_int-index.result c.in-Some.name b c.in-Some.ensures in
    let n = same_number c.len_of.result c.unwrap-len.result (length y.object.slots) c.unwrap-len.ensures (len_is c.args.heap.now.objects c.in-Some.name q.0 y c.len_of.result c.len_of.ensures) in
    let fits : SFits w32 c.top_int-index.result = search rules in
    let same : (o : Option ℕ) → o ≡ place_of (to_z w32 (of_z w32 c.top_int-index.result)) c.unwrap-len.result → place_of c.top_int-index.result (length y.object.slots) ≡ o =
    λ o e. ap₂ place_of (sym (to_z-of_z w32 c.top_int-index.result fits)) (sym n) ∙ sym e in
    load_out c.throw_object-in_default-place_within.result c.args.p.now (doing c.args.p.now own c.args.i.now found) q.0 c.args.heap.now.objects c.throw_object-in_default-place_within.new.heap.objects ls (top_first c.args.stack.now c.args.depth.now) b.rest c.top_int-index.result c.in-Some.name c.throw_object-in_default-place_within.new.told b.is
    c.in-Some.ensures y (same None c.in_default-place_within.ensures) (load_rule c.args.p.now own c.args.i.now found c.args.code q.0 c.requires.row c.requires.code q.1) c.throw_object-in_default-place_within.ensures

pub returns-clause-went : goal.returns-clause-went
returns-clause-went c = λ own found ls.
    let q = what (elements_of c.args.code) c.requires.elements in
    let b = begins c.args.p.now c.args.i.now c.args.code q.0 c.args.heap.now.objects c.args.stack.now c.args.depth.now c.top_int-index.result c.requires.row c.requires.code q.1 c.requires.can c.top_int-index.ensures in
    let y = load_array c.args.p.now q.0 c.args.heap.now.objects c.requires.can.2 (top_first c.args.stack.now c.args.depth.now) c.top_int-index.result c.in-Some.name b c.in-Some.ensures in
    let n = same_number c.len_of.result c.unwrap-len.result (length y.object.slots) c.unwrap-len.ensures (len_is c.args.heap.now.objects c.in-Some.name q.0 y c.len_of.result c.len_of.ensures) in
    let fits : SFits w32 c.top_int-index.result = search rules in
    let same : (o : Option ℕ) → o ≡ place_of (to_z w32 (of_z w32 c.top_int-index.result)) c.unwrap-len.result → place_of c.top_int-index.result (length y.object.slots) ≡ o =
    λ o e. ap₂ place_of (sym (to_z-of_z w32 c.top_int-index.result fits)) (sym n) ∙ sym e in
    let vs : List Value = top_first c.args.stack.now c.args.depth.now in
    let us : List Value = top_first c.args.stack.now c.pop-2.new.depth in
    go_on_by c.args.p.now own c.args.i.now found (window c.args.heap.now.objects ls c.args.stack.now c.args.depth.now) (window c.args.heap.now.objects ls c.push.new.stack c.push.new.depth) (loads_of c.args.p.now q.0) (load_rule c.args.p.now own c.args.i.now found c.args.code q.0 c.requires.row c.requires.code q.1)
    (load_leads c.args.p.now q.0 c.args.heap.now.objects ls vs b.rest us (top_first c.push.new.stack c.push.new.depth) c.top_int-index.result c.in-Some.name c.in-Some-place_within.place c.get_slot-value.result c.pop-2.result b.is c.in-Some.ensures y
    (same (Some c.in-Some-place_within.place) c.in-Some-place_within.ensures) c.get_slot-value.ensures
    (below_top vs b.rest (top_first c.args.stack.now c.pop.new.depth) (Int c.top_int-index.result) c.pop.result b.is c.pop.ensures.popped ∙ c.pop-2.ensures.popped) c.push.ensures.pushed)
