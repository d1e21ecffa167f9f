use Rattle.std.proofs.Common.{◌≡◌, ◌∙◌, ◌∷◌, ℕ, refl, sym, ap, of_z, to_z, w32, SFits, rules}
use Rattle.std.proofs.lemmas.Int.{to_z-of_z}
use Rattle.nr_model.specs.declared.value.Value.TheVariants.{Int}
use Rattle.nr_model.specs.ArrayRules.{new_array}
use Rattle.nr_model.specs.Scripts.{GoTo, GoesTo}
use Rattle.nr_heap.specs.Contents.{Contents, array_with, reached}
use Rattle.nr_step.specs.Elements.{count_of}
use Rattle.nr_step.specs.Windows.{top_first, window}
use Rattle.nr_step.proofs.Going.{few_reached, full_number, went_by}
use Rattle.nr_step.proofs.NewArrays.{a_count, array_fills, array_leads, array_unmade, negative_thrown, no_count}
use Rattle.nr_step.specs.declared.flow.Flow.TheVariants as flows
use Rattle.nr_model.specs.Throws.{onward}
use Rattle.nr_step.proofs.instructions.new_arrays.make_array.Goals as goal

pub returns-in_default-clause-went : goal.returns-in_default-clause-went
returns-in_default-clause-went c = λ ls S is_rule.
    let fits : SFits w32 c.pop_int-count.result = search rules in
    let same : count_of c.pop_int-count.result ≡ count_of (to_z w32 (of_z w32 c.pop_int-count.result)) = ap count_of (sym (to_z-of_z w32 c.pop_int-count.result fits)) in
    let vs = top_first c.args.stack.now c.args.depth.now in
    let us = top_first c.args.stack.now c.pop_int-count.new.depth in
    let n = no_count c.pop_int-count.result (same ∙ sym c.in_default.ensures) in
    negative_thrown c.throw_object.result c.args.p.now S c.args.elem n.0 c.args.heap.now.objects c.throw_object.new.heap.objects ls vs us c.throw_object.new.told (c.pop_int-count.ensures.popped ∙ ap (λ z. Int z ∷ us) n.1) is_rule c.throw_object.ensures

pub returns-in-Ok-clause-went : goal.returns-in-Ok-clause-went
returns-in-Ok-clause-went c = λ ls S is_rule.
    let fits : SFits w32 c.pop_int-count.result = search rules in
    let same : count_of c.pop_int-count.result ≡ count_of (to_z w32 (of_z w32 c.pop_int-count.result)) = ap count_of (sym (to_z-of_z w32 c.pop_int-count.result fits)) in
    let vs = top_first c.args.stack.now c.args.depth.now in
    let us = top_first c.args.stack.now c.pop_int-count.new.depth in
    let n = a_count c.pop_int-count.result c.in-Some.len (same ∙ sym c.in-Some.ensures) in
    let is = c.pop_int-count.ensures.popped ∙ ap (λ z. Int z ∷ us) n in
    went_by flows.Next c.args.p.now S (λ n. new_array c.args.p.now c.args.elem (onward n)) (window c.args.heap.now.objects ls c.args.stack.now c.args.depth.now) c.args.told.now (window c.new_array.new.self.objects ls c.push.new.stack c.push.new.depth) is_rule
    (λ m. array_leads c.args.p.now c.args.elem c.in-Some.len c.args.heap.now c.new_array.new.self c.in-Ok.name ls vs us (top_first c.push.new.stack c.push.new.depth) is c.in-Ok.ensures.made c.push.ensures.pushed (GoTo m) (GoesTo m) (window c.new_array.new.self.objects ls c.push.new.stack c.push.new.depth) (refl, refl))

pub returns-in-Err-HeapFull-clause-went : goal.returns-in-Err-HeapFull-clause-went
returns-in-Err-HeapFull-clause-went c = λ ls S is_rule.
    let fits : SFits w32 c.pop_int-count.result = search rules in
    let same : count_of c.pop_int-count.result ≡ count_of (to_z w32 (of_z w32 c.pop_int-count.result)) = ap count_of (sym (to_z-of_z w32 c.pop_int-count.result fits)) in
    let vs = top_first c.args.stack.now c.args.depth.now in
    let us = top_first c.args.stack.now c.pop_int-count.new.depth in
    let n = a_count c.pop_int-count.result c.in-Some.len (same ∙ sym c.in-Some.ensures) in
    let is = c.pop_int-count.ensures.popped ∙ ap (λ z. Int z ∷ us) n in
    let f = full_number c.new_array.result (reached c.args.heap.now.objects (array_with c.args.elem c.in-Some.len)) c.in-Err-HeapFull.cells (cc (c.in-Err-HeapFull.is, c.in-Err-HeapFull.field-0-is)) c.new_array.ensures.full c.new_array.ensures.other in
    array_fills c.args.p.now S c.args.elem c.in-Some.len c.args.heap.now.objects c.new_array.new.self.objects ls vs us (record c.args.told.now { cells = c.in-Err-HeapFull.cells }) is is_rule (ap (λ (h : Contents). h.objects) c.in-Err-HeapFull.ensures.err) f.0 f.1

pub returns-in-Err-NoMemory-clause-went : goal.returns-in-Err-NoMemory-clause-went
returns-in-Err-NoMemory-clause-went c = λ ls S is_rule.
    let fits : SFits w32 c.pop_int-count.result = search rules in
    let same : count_of c.pop_int-count.result ≡ count_of (to_z w32 (of_z w32 c.pop_int-count.result)) = ap count_of (sym (to_z-of_z w32 c.pop_int-count.result fits)) in
    let vs = top_first c.args.stack.now c.args.depth.now in
    let us = top_first c.args.stack.now c.pop_int-count.new.depth in
    let n = a_count c.pop_int-count.result c.in-Some.len (same ∙ sym c.in-Some.ensures) in
    let is = c.pop_int-count.ensures.popped ∙ ap (λ z. Int z ∷ us) n in
    let m : ℕ = reached c.args.heap.now.objects (array_with c.args.elem c.in-Some.len) in
    let few = few_reached c.new_array.result m m (cc (c.in-Err-NoMemory.is, c.in-Err-NoMemory.field-0-is)) c.new_array.ensures.full in
    array_unmade c.args.p.now S c.args.elem c.in-Some.len c.args.heap.now.objects c.new_array.new.self.objects ls vs us c.args.told.now is is_rule (ap (λ (h : Contents). h.objects) c.in-Err-NoMemory.ensures.err) few
