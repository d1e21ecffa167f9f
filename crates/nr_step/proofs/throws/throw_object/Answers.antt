use Rattle.std.proofs.Common.{◌≡◌, ◌∙◌, ◌≤◌, ℕ, sym, subst, ap, IsTrue}
use Rattle.nr_linked.specs.BuiltIns.{built_in}
use Rattle.nr_linked.specs.TypingFacts.{is_makeable}
use Rattle.nr_heap.specs.Contents.{Contents, HasMade, object_of, reached}
use Rattle.nr_model.specs.Outcomes.{max_cells}
use Rattle.nr_step.proofs.Going.{few_reached, full_number, thrown_full, thrown_more, thrown_new}
use Rattle.nr_step.proofs.throws.throw_object.Goals as goal

pub new_object-requires : goal.new_object-requires
new_object-requires c =
    subst (λ k. IsTrue (is_makeable c.args.p.now k)) (sym c.built_in.ensures) (c.tables.ensures.facts.typing.thrown c.args.which c.requires).1

pub returns-in-Ok : goal.returns-in-Ok
returns-in-Ok c = λ w e.
    thrown_new c.args.p.now c.args.which w c.args.heap.now c.new_object.new.self c.in-Ok.name e
    (subst (λ k. HasMade c.args.heap.now c.new_object.new.self c.in-Ok.name (object_of c.args.p.now k)) c.built_in.ensures c.in-Ok.ensures.made)

pub returns-in-Err-HeapFull : goal.returns-in-Err-HeapFull
returns-in-Err-HeapFull c = λ w e.
    let n = full_number c.new_object.result (reached c.args.heap.now.objects (object_of c.args.p.now c.built_in.result)) c.in-Err-HeapFull.cells (cc (c.in-Err-HeapFull.is, c.in-Err-HeapFull.field-0-is)) c.new_object.ensures.full c.new_object.ensures.other in
    let m : c.in-Err-HeapFull.cells ≡ reached c.args.heap.now.objects (object_of c.args.p.now (built_in c.args.p.now c.args.which)) = n.0 ∙ ap (λ k. reached c.args.heap.now.objects (object_of c.args.p.now k)) c.built_in.ensures in
    (ap (λ (h : Contents). h.objects) c.in-Err-HeapFull.ensures.err ∙ sym e, n.1, thrown_full c.args.p.now c.args.which w c.args.heap.now.objects c.in-Err-HeapFull.cells e m)

pub returns-in-Err-NoMemory : goal.returns-in-Err-NoMemory
returns-in-Err-NoMemory c = λ w e.
    let n : ℕ = reached c.args.heap.now.objects (object_of c.args.p.now c.built_in.result) in
    let few = few_reached c.new_object.result n n (cc (c.in-Err-NoMemory.is, c.in-Err-NoMemory.field-0-is)) c.new_object.ensures.full in (
      ap (λ (h : Contents). h.objects) c.in-Err-NoMemory.ensures.err ∙ sym e,
      thrown_more c.args.p.now c.args.which w c.args.heap.now.objects e (subst (λ k. reached c.args.heap.now.objects (object_of c.args.p.now k) ≤ max_cells) c.built_in.ensures few),
    )
