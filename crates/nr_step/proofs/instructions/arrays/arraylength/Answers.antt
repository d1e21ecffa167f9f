use Rattle.std.proofs.Common.{◌≡◌, ◌∙◌, ◌∷◌, length, true, refl, sym, subst, ap, IsSome, w32, SFits, rules}
use Rattle.std.specs.FinMap.{get}
use Rattle.std.proofs.lemmas.Int.{to_z-of_z}
use Rattle.nr_linked.specs.Kinds.{is_array}
use Rattle.nr_model.specs.declared.value.Value.TheVariants.{Int}
use Rattle.nr_model.specs.Throws.{not_null, onward}
use Rattle.nr_step.specs.Instructions.{doing}
use Rattle.nr_step.specs.Windows.{top_first, window}
use Rattle.nr_step.proofs.NewArrays.{array_there, asks_length, few_slots, is_there, length_is, length_leads, length_seen, small}
use Rattle.nr_step.proofs.Objects.{not_null_asks, null_thrown, some_map}
use Rattle.nr_step.proofs.Rows.{begin_by, go_on_by}
use Rattle.nr_step.proofs.instructions.arrays.arraylength.Goals as goal

pub reference_at-requires-clause-some : goal.reference_at-requires-clause-some
reference_at-requires-clause-some c =
    let can = c.requires.can in
    let b = begin_by c.args.p.now can.0 c.args.i.now can.1 (window c.args.heap.now.objects can.2 c.args.stack.now c.args.depth.now) (length c.args.stack.now) (λ k. not_null c.args.p.now 0 (asks_length k)) (length_is c.args.p.now can.0 c.args.i.now can.1 c.requires.row) can.3 in
    not_null_asks c.args.p.now 0 asks_length c.args.heap.now.objects can.2 (top_first c.args.stack.now c.args.depth.now) b

pub returns-in_default-clause-went : goal.returns-in_default-clause-went
returns-in_default-clause-went c = λ own found ls.
    null_thrown c.throw_object.result c.args.p.now (doing c.args.p.now own c.args.i.now found) (λ n. asks_length (onward n)) c.args.heap.now.objects c.throw_object.new.heap.objects ls (top_first c.args.stack.now c.args.depth.now) c.throw_object.new.told
    c.in_default.ensures (length_is c.args.p.now own c.args.i.now found c.requires.row) c.throw_object.ensures

pub len_of-requires : goal.len_of-requires
len_of-requires c =
    let can = c.requires.can in
    let b = begin_by c.args.p.now can.0 c.args.i.now can.1 (window c.args.heap.now.objects can.2 c.args.stack.now c.args.depth.now) (length c.args.stack.now) (λ k. not_null c.args.p.now 0 (asks_length k)) (length_is c.args.p.now can.0 c.args.i.now can.1 c.requires.row) can.3 in
    let s = array_there c.args.p.now c.in-Some.name c.args.heap.now.objects can.2 (top_first c.args.stack.now c.args.depth.now) b c.in-Some.ensures in
    some_map (get c.args.heap.now.objects c.in-Some.name) (λ o. is_array o.kind ≡ true) (λ o. Unit {0}) s (λ o q. tt)

pub unwrap-len-requires : goal.unwrap-len-requires
unwrap-len-requires c =
    let can = c.requires.can in
    let b = begin_by c.args.p.now can.0 c.args.i.now can.1 (window c.args.heap.now.objects can.2 c.args.stack.now c.args.depth.now) (length c.args.stack.now) (λ k. not_null c.args.p.now 0 (asks_length k)) (length_is c.args.p.now can.0 c.args.i.now can.1 c.requires.row) can.3 in
    let s = array_there c.args.p.now c.in-Some.name c.args.heap.now.objects can.2 (top_first c.args.stack.now c.args.depth.now) b c.in-Some.ensures in
    let x = is_there c.args.heap.now.objects c.in-Some.name c.len_of.result s c.len_of.ensures in
    subst (λ r. IsSome r) (sym x.1) refl

pub returns-clause-went : goal.returns-clause-went
returns-clause-went c = λ own found ls.
    let can = c.requires.can in
    let b = begin_by c.args.p.now can.0 c.args.i.now can.1 (window c.args.heap.now.objects can.2 c.args.stack.now c.args.depth.now) (length c.args.stack.now) (λ k. not_null c.args.p.now 0 (asks_length k)) (length_is c.args.p.now can.0 c.args.i.now can.1 c.requires.row) can.3 in
    let s = array_there c.args.p.now c.in-Some.name c.args.heap.now.objects can.2 (top_first c.args.stack.now c.args.depth.now) b c.in-Some.ensures in
    let t = length_seen c.args.heap.now.objects c.in-Some.name c.len_of.result c.unwrap-len.result s c.len_of.ensures c.unwrap-len.ensures in
    let fits : SFits w32 c.cast_signed-length.result = search rules in
    let e = to_z-of_z w32 c.cast_signed-length.result fits ∙ c.cast_signed-length.ensures ∙ small c.unwrap-len.result (few_slots c.args.heap.now.objects c.in-Some.name c.unwrap-len.result c.cells.ensures.few t) in
    go_on_by c.args.p.now own c.args.i.now found (window c.args.heap.now.objects ls c.args.stack.now c.args.depth.now) (window c.args.heap.now.objects ls c.push.new.stack c.push.new.depth) (λ k. not_null c.args.p.now 0 (asks_length k)) (length_is c.args.p.now own c.args.i.now found c.requires.row)
    (length_leads c.args.p.now c.in-Some.name c.unwrap-len.result c.args.heap.now.objects ls (top_first c.args.stack.now c.args.depth.now) (top_first c.args.stack.now c.pop.new.depth) (top_first c.push.new.stack c.push.new.depth) c.pop.result c.in-Some.ensures s t c.pop.ensures.popped
    (c.push.ensures.pushed ∙ ap (λ z. Int z ∷ top_first c.args.stack.now c.pop.new.depth) e))
