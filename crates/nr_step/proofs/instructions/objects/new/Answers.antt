use Rattle.std.proofs.Common.{◌∙◌, ◌≤◌, ℕ, List, length, Option, IsTrue, ap, sym, subst, arith}
use Rattle.nr_linked.specs.declared.program.kind.Kind.{Kind}
use Rattle.nr_linked.specs.declared.program.tables.MethodInfo.{MethodInfo}
use Rattle.nr_linked.specs.declared.program.tables.ProgramTables.{ProgramTables}
use Rattle.nr_linked.specs.declared.program.tables.Resolved.{Resolved}
use Rattle.nr_linked.specs.Kinds.{class_kind}
use Rattle.nr_linked.specs.TypingFacts.{SiteFacts, is_makeable}
use Rattle.nr_prog.specs.declared.body.instruction.Instr.{Instr}
use Rattle.nr_model.specs.declared.value.Value.{Value}
use Rattle.nr_model.specs.Heaps.{Heap}
use Rattle.nr_model.specs.Outcomes.{max_cells}
use Rattle.nr_model.specs.Throws.{make_object, zeros}
use Rattle.nr_heap.specs.Contents.{Contents, HasMade, object_of, reached}
use Rattle.nr_step.specs.Instructions.{CanFind, IsRowOf, doing, site_of}
use Rattle.nr_step.specs.Windows.{top_first, window}
use Rattle.nr_step.proofs.ConstantRules.{push_fits}
use Rattle.nr_step.proofs.Going.{few_reached, full_number}
use Rattle.nr_step.proofs.Making.{ClassFound, class_found, fills_made, made_leads, made_pushed, none_made, new_rule, same_class, same_kind}
use Rattle.nr_step.proofs.Rows.{go_on_by}
use Rattle.nr_step.proofs.instructions.objects.new.Goals as goal

of_class : (P : ProgramTables) (i : Instr) (found : Resolved) (h : Heap) (s : List Value) (d : ℕ) → IsRowOf 187 i.row → ((own : MethodInfo) × (n : Option ℕ) × SiteFacts P own.«class» (site_of i found n)) → CanFind P i found h s d → ClassFound P found
of_class P i found h s d r site can = class_found P can.0 site.0 i found (window h can.1 s d) (length s) site.1 r site.2 can.2

pub unreachable-requires : goal.unreachable-requires
unreachable-requires c =
    let f = of_class c.args.p.now c.args.i.now c.args.found.now c.args.heap.now.objects c.args.stack.now c.args.depth.now c.requires.row c.requires.site c.requires.can in
    c.in_default.not-Kind (class_kind f.number) f.is

pub unreachable-requires-in_default-base : goal.unreachable-requires-in_default-base
unreachable-requires-in_default-base c =
    let f = of_class c.args.p.now c.args.i.now c.args.found.now c.args.heap.now.objects c.args.stack.now c.args.depth.now c.requires.row c.requires.site c.requires.can in
    c.in_default-base.not-Object f.number (ap (λ (k : Kind). k.base) (same_kind c.args.found.now c.in-Kind.kind (class_kind f.number) c.in-Kind.is f.is))

pub new_object-requires : goal.new_object-requires
new_object-requires c =
    let f = of_class c.args.p.now c.args.i.now c.args.found.now c.args.heap.now.objects c.args.stack.now c.args.depth.now c.requires.row c.requires.site c.requires.can in
    subst (λ n. IsTrue (is_makeable c.args.p.now n)) (sym (same_class f.number c.in-Object.class c.in-Kind.kind (same_kind c.args.found.now c.in-Kind.kind (class_kind f.number) c.in-Kind.is f.is) c.in-Object.is)) f.makeable

pub push-requires : goal.push-requires
push-requires c =
    let f = of_class c.args.p.now c.args.i.now c.args.found.now c.args.heap.now.objects c.args.stack.now c.args.depth.now c.requires.row c.requires.site c.requires.can in
    let can = c.requires.can in
    record {
      room = push_fits c.args.p.now can.0 c.args.i.now c.args.found.now c.args.heap.now.objects can.1 c.args.stack.now c.args.depth.now (make_object c.args.p.now f.number) (new_rule c.args.p.now can.0 c.args.i.now c.args.found.now c.requires.row f)
          (made_pushed (class_kind f.number) (zeros c.args.p.now f.number) (window c.args.heap.now.objects can.1 c.args.stack.now c.args.depth.now)) can.2;
    }

pub returns-in-Ok-clause-went : goal.returns-in-Ok-clause-went
returns-in-Ok-clause-went c = λ own ls.
    let f = of_class c.args.p.now c.args.i.now c.args.found.now c.args.heap.now.objects c.args.stack.now c.args.depth.now c.requires.row c.requires.site c.requires.can in
    let n = same_class f.number c.in-Object.class c.in-Kind.kind (same_kind c.args.found.now c.in-Kind.kind (class_kind f.number) c.in-Kind.is f.is) c.in-Object.is in
    go_on_by c.args.p.now own c.args.i.now c.args.found.now (window c.args.heap.now.objects ls c.args.stack.now c.args.depth.now) (window c.new_object.new.self.objects ls c.push.new.stack c.push.new.depth) (make_object c.args.p.now f.number) (new_rule c.args.p.now own c.args.i.now c.args.found.now c.requires.row f)
    (made_leads (class_kind f.number) (zeros c.args.p.now f.number) c.args.heap.now c.new_object.new.self c.in-Ok.name ls (top_first c.args.stack.now c.args.depth.now) (top_first c.push.new.stack c.push.new.depth)
    (subst (λ n. HasMade c.args.heap.now c.new_object.new.self c.in-Ok.name (object_of c.args.p.now n)) n c.in-Ok.ensures.made) c.push.ensures.pushed)

pub returns-in-Ok-clause-room : goal.returns-in-Ok-clause-room
returns-in-Ok-clause-room c =
    let f = of_class c.args.p.now c.args.i.now c.args.found.now c.args.heap.now.objects c.args.stack.now c.args.depth.now c.requires.row c.requires.site c.requires.can in
    let can = c.requires.can in
    let l = push_fits c.args.p.now can.0 c.args.i.now c.args.found.now c.args.heap.now.objects can.1 c.args.stack.now c.args.depth.now (make_object c.args.p.now f.number) (new_rule c.args.p.now can.0 c.args.i.now c.args.found.now c.requires.row f)
    (made_pushed (class_kind f.number) (zeros c.args.p.now f.number) (window c.args.heap.now.objects can.1 c.args.stack.now c.args.depth.now)) can.2 in
    omega (arith, l, c.push.ensures.depth, c.push.ensures.length)

pub returns-in-Err-HeapFull-clause-went : goal.returns-in-Err-HeapFull-clause-went
returns-in-Err-HeapFull-clause-went c = λ own ls.
    let f = of_class c.args.p.now c.args.i.now c.args.found.now c.args.heap.now.objects c.args.stack.now c.args.depth.now c.requires.row c.requires.site c.requires.can in
    let q = same_class f.number c.in-Object.class c.in-Kind.kind (same_kind c.args.found.now c.in-Kind.kind (class_kind f.number) c.in-Kind.is f.is) c.in-Object.is in
    let n = full_number c.new_object.result (reached c.args.heap.now.objects (object_of c.args.p.now c.in-Object.class)) c.in-Err-HeapFull.cells (cc (c.in-Err-HeapFull.is, c.in-Err-HeapFull.field-0-is)) c.new_object.ensures.full c.new_object.ensures.other in
    fills_made c.args.p.now (doing c.args.p.now own c.args.i.now c.args.found.now) (class_kind f.number) (zeros c.args.p.now f.number) c.args.heap.now.objects c.new_object.new.self.objects ls (top_first c.args.stack.now c.args.depth.now) (record c.args.told.now { cells = c.in-Err-HeapFull.cells })
    (new_rule c.args.p.now own c.args.i.now c.args.found.now c.requires.row f) (ap (λ (h : Contents). h.objects) c.in-Err-HeapFull.ensures.err) (n.0 ∙ ap (λ n. reached c.args.heap.now.objects (object_of c.args.p.now n)) q) n.1

pub returns-in-Err-NoMemory-clause-went : goal.returns-in-Err-NoMemory-clause-went
returns-in-Err-NoMemory-clause-went c = λ own ls.
    let f = of_class c.args.p.now c.args.i.now c.args.found.now c.args.heap.now.objects c.args.stack.now c.args.depth.now c.requires.row c.requires.site c.requires.can in
    let q = same_class f.number c.in-Object.class c.in-Kind.kind (same_kind c.args.found.now c.in-Kind.kind (class_kind f.number) c.in-Kind.is f.is) c.in-Object.is in
    let n : ℕ = reached c.args.heap.now.objects (object_of c.args.p.now c.in-Object.class) in
    let few = few_reached c.new_object.result n n (cc (c.in-Err-NoMemory.is, c.in-Err-NoMemory.field-0-is)) c.new_object.ensures.full in
    none_made c.args.p.now (doing c.args.p.now own c.args.i.now c.args.found.now) (class_kind f.number) (zeros c.args.p.now f.number) c.args.heap.now.objects c.new_object.new.self.objects ls (top_first c.args.stack.now c.args.depth.now) c.args.told.now
    (new_rule c.args.p.now own c.args.i.now c.args.found.now c.requires.row f) (ap (λ (h : Contents). h.objects) c.in-Err-NoMemory.ensures.err) (subst (λ n. reached c.args.heap.now.objects (object_of c.args.p.now n) ≤ max_cells) q few)
