use Rattle.std.proofs.Common.{◌≡◌, ◌∙◌, ◌+◌, ◌-◌, ◌^◌, ℕ, length, min, sym, ap, arith}
use Rattle.std.proofs.lemmas.List.Edits.{length-between}
use Rattle.nr_model.specs.ArrayRules.{nested, new_arrays}
use Rattle.nr_model.specs.Heaps.{cells}
use Rattle.nr_heap.specs.Contents.{Contents}
use Rattle.nr_step.specs.Instructions.{doing}
use Rattle.nr_step.specs.NestedArrays.{counts_in, nest_cells}
use Rattle.nr_step.specs.Windows.{top_first, window}
use Rattle.nr_step.proofs.Going.{few_reached}
use Rattle.nr_step.proofs.NestedCells.{nest_fills, nest_leads, nest_refused, nest_unmade}
use Rattle.nr_step.proofs.NestedRules.{as_many, counts_at, dims_there, ints_at, nest_found, nest_rule}
use Rattle.nr_step.proofs.Rows.{begin_by, go_on_by}
use Rattle.nr_step.proofs.instructions.nested_arrays.multianewarray.Goals as goal

pub unreachable-requires : goal.unreachable-requires
unreachable-requires c =
    let site = c.requires.site in
    let can = c.requires.can in
    let a = dims_there c.args.p.now site.0.class c.args.i.now c.args.found.now site.1 c.requires.row site.2 in
    let k = nest_found c.args.p.now can.0 c.args.i.now c.args.found.now a.0 a.1 (window c.args.heap.now.objects can.1 c.args.stack.now c.args.depth.now) (length c.args.stack.now) c.requires.row a.2 can.2 in
    c.in_default.not-Kind k.0 k.1

pub unreachable-requires-in_default-args : goal.unreachable-requires-in_default-args
unreachable-requires-in_default-args c =
    let site = c.requires.site in
    let a = dims_there c.args.p.now site.0.class c.args.i.now c.args.found.now site.1 c.requires.row site.2 in
    c.in_default-args.not-Dims a.0 a.1 a.2

pub overflow_sub-below : goal.overflow_sub-below
overflow_sub-below c =
    let s = begin_by c.args.p.now c.requires.can.0 c.args.i.now c.args.found.now (window c.args.heap.now.objects c.requires.can.1 c.args.stack.now c.args.depth.now) (length c.args.stack.now) (new_arrays c.args.p.now c.in-Kind.kind c.in-Dims.dims) (nest_rule c.args.p.now c.requires.can.0 c.args.i.now c.args.found.now c.in-Dims.field-0 c.in-Dims.dims c.in-Kind.kind c.requires.row c.in-Dims.is c.in-Kind.is) c.requires.can.2 in
    let l = as_many c.args.p.now c.in-Kind.kind c.in-Dims.dims c.args.depth.now c.args.stack.now c.args.heap.now.objects c.requires.can.1 s in
    omega (arith, l, c.from.ensures)

pub returns-then-has_negative-clause-went : goal.returns-then-has_negative-clause-went
returns-then-has_negative-clause-went c = λ own ls.
    let s = begin_by c.args.p.now c.requires.can.0 c.args.i.now c.args.found.now (window c.args.heap.now.objects c.requires.can.1 c.args.stack.now c.args.depth.now) (length c.args.stack.now) (new_arrays c.args.p.now c.in-Kind.kind c.in-Dims.dims) (nest_rule c.args.p.now c.requires.can.0 c.args.i.now c.args.found.now c.in-Dims.field-0 c.in-Dims.dims c.in-Kind.kind c.requires.row c.in-Dims.is c.in-Kind.is) c.requires.can.2 in
    let l = as_many c.args.p.now c.in-Kind.kind c.in-Dims.dims c.args.depth.now c.args.stack.now c.args.heap.now.objects c.requires.can.1 s in
    let b : ℕ = c.args.depth.now - c.from.result in
    let q : b + c.in-Dims.dims ≡ c.args.depth.now = omega (arith, l, c.from.ensures) in
    let ints = ints_at c.args.p.now c.args.stack.now b c.in-Dims.dims c.args.depth.now (λ ns. nested c.in-Kind.kind ns s.0) c.args.heap.now.objects c.requires.can.1 s.1 s.2 q c.requires.room s.3 in
    nest_refused c.throw_object.result c.args.p.now (doing c.args.p.now own c.args.i.now c.args.found.now) c.in-Kind.kind c.args.stack.now b c.in-Dims.dims c.args.depth.now c.args.heap.now.objects c.throw_object.new.heap.objects ls c.throw_object.new.told q c.requires.room ints
    (sym c.has_negative.ensures ∙ c.if-has_negative.true) (nest_rule c.args.p.now own c.args.i.now c.args.found.now c.in-Dims.field-0 c.in-Dims.dims c.in-Kind.kind c.requires.row c.in-Dims.is c.in-Kind.is) c.throw_object.ensures

pub new_nest-requires-clause-some : goal.new_nest-requires-clause-some
new_nest-requires-clause-some c =
    let s = begin_by c.args.p.now c.requires.can.0 c.args.i.now c.args.found.now (window c.args.heap.now.objects c.requires.can.1 c.args.stack.now c.args.depth.now) (length c.args.stack.now) (new_arrays c.args.p.now c.in-Kind.kind c.in-Dims.dims) (nest_rule c.args.p.now c.requires.can.0 c.args.i.now c.args.found.now c.in-Dims.field-0 c.in-Dims.dims c.in-Kind.kind c.requires.row c.in-Dims.is c.in-Kind.is) c.requires.can.2 in
    let l = as_many c.args.p.now c.in-Kind.kind c.in-Dims.dims c.args.depth.now c.args.stack.now c.args.heap.now.objects c.requires.can.1 s in
    let site = c.requires.site in
    let d = site.2.dimensions c.in-Dims.field-0 c.in-Dims.dims c.in-Kind.kind c.in-Dims.is c.in-Kind.is in
    omega (arith, length-between c.args.stack.now (c.args.depth.now - c.from.result) c.args.depth.now c.requires.room, d.0, l, c.from.ensures)

pub push-requires : goal.push-requires
push-requires c =
    let s = begin_by c.args.p.now c.requires.can.0 c.args.i.now c.args.found.now (window c.args.heap.now.objects c.requires.can.1 c.args.stack.now c.args.depth.now) (length c.args.stack.now) (new_arrays c.args.p.now c.in-Kind.kind c.in-Dims.dims) (nest_rule c.args.p.now c.requires.can.0 c.args.i.now c.args.found.now c.in-Dims.field-0 c.in-Dims.dims c.in-Kind.kind c.requires.row c.in-Dims.is c.in-Kind.is) c.requires.can.2 in
    let l = as_many c.args.p.now c.in-Kind.kind c.in-Dims.dims c.args.depth.now c.args.stack.now c.args.heap.now.objects c.requires.can.1 s in
    let site = c.requires.site in
    let d = site.2.dimensions c.in-Dims.field-0 c.in-Dims.dims c.in-Kind.kind c.in-Dims.is c.in-Kind.is in
    record { room = omega (arith, d.0, l, c.from.ensures, c.requires.room) }

pub returns-in-Ok-clause-went : goal.returns-in-Ok-clause-went
returns-in-Ok-clause-went c = λ own ls.
    let s = begin_by c.args.p.now c.requires.can.0 c.args.i.now c.args.found.now (window c.args.heap.now.objects c.requires.can.1 c.args.stack.now c.args.depth.now) (length c.args.stack.now) (new_arrays c.args.p.now c.in-Kind.kind c.in-Dims.dims) (nest_rule c.args.p.now c.requires.can.0 c.args.i.now c.args.found.now c.in-Dims.field-0 c.in-Dims.dims c.in-Kind.kind c.requires.row c.in-Dims.is c.in-Kind.is) c.requires.can.2 in
    let l = as_many c.args.p.now c.in-Kind.kind c.in-Dims.dims c.args.depth.now c.args.stack.now c.args.heap.now.objects c.requires.can.1 s in
    let b : ℕ = c.args.depth.now - c.from.result in
    let q : b + c.in-Dims.dims ≡ c.args.depth.now = omega (arith, l, c.from.ensures) in
    let ints = ints_at c.args.p.now c.args.stack.now b c.in-Dims.dims c.args.depth.now (λ ns. nested c.in-Kind.kind ns s.0) c.args.heap.now.objects c.requires.can.1 s.1 s.2 q c.requires.room s.3 in
    go_on_by c.args.p.now own c.args.i.now c.args.found.now (window c.args.heap.now.objects ls c.args.stack.now c.args.depth.now) (window c.new_nest.new.heap.objects ls c.push.new.stack c.push.new.depth) (new_arrays c.args.p.now c.in-Kind.kind c.in-Dims.dims) (nest_rule c.args.p.now own c.args.i.now c.args.found.now c.in-Dims.field-0 c.in-Dims.dims c.in-Kind.kind c.requires.row c.in-Dims.is c.in-Kind.is)
    (nest_leads c.args.p.now c.in-Kind.kind c.args.stack.now b c.in-Dims.dims c.args.depth.now c.args.heap.now.objects c.new_nest.new.heap.objects ls (top_first c.push.new.stack c.push.new.depth) c.in-Ok.name q c.requires.room ints (sym c.has_negative.ensures ∙ c.if-has_negative.false) (c.in-Ok.ensures.made ls (top_first c.args.stack.now b)) c.push.ensures.pushed)

pub returns-in-Ok-clause-room : goal.returns-in-Ok-clause-room
returns-in-Ok-clause-room c =
    let s = begin_by c.args.p.now c.requires.can.0 c.args.i.now c.args.found.now (window c.args.heap.now.objects c.requires.can.1 c.args.stack.now c.args.depth.now) (length c.args.stack.now) (new_arrays c.args.p.now c.in-Kind.kind c.in-Dims.dims) (nest_rule c.args.p.now c.requires.can.0 c.args.i.now c.args.found.now c.in-Dims.field-0 c.in-Dims.dims c.in-Kind.kind c.requires.row c.in-Dims.is c.in-Kind.is) c.requires.can.2 in
    let l = as_many c.args.p.now c.in-Kind.kind c.in-Dims.dims c.args.depth.now c.args.stack.now c.args.heap.now.objects c.requires.can.1 s in
    let site = c.requires.site in
    let d = site.2.dimensions c.in-Dims.field-0 c.in-Dims.dims c.in-Kind.kind c.in-Dims.is c.in-Kind.is in
    omega (arith, d.0, l, c.from.ensures, c.requires.room, c.push.ensures.depth, c.push.ensures.length)

pub returns-in-Err-HeapFull-clause-went : goal.returns-in-Err-HeapFull-clause-went
returns-in-Err-HeapFull-clause-went c = λ own ls.
    let s = begin_by c.args.p.now c.requires.can.0 c.args.i.now c.args.found.now (window c.args.heap.now.objects c.requires.can.1 c.args.stack.now c.args.depth.now) (length c.args.stack.now) (new_arrays c.args.p.now c.in-Kind.kind c.in-Dims.dims) (nest_rule c.args.p.now c.requires.can.0 c.args.i.now c.args.found.now c.in-Dims.field-0 c.in-Dims.dims c.in-Kind.kind c.requires.row c.in-Dims.is c.in-Kind.is) c.requires.can.2 in
    let l = as_many c.args.p.now c.in-Kind.kind c.in-Dims.dims c.args.depth.now c.args.stack.now c.args.heap.now.objects c.requires.can.1 s in
    let b : ℕ = c.args.depth.now - c.from.result in
    let q : b + c.in-Dims.dims ≡ c.args.depth.now = omega (arith, l, c.from.ensures) in
    nest_fills c.args.p.now (doing c.args.p.now own c.args.i.now c.args.found.now) c.in-Kind.kind c.args.stack.now b c.in-Dims.dims c.args.depth.now c.args.heap.now.objects c.new_nest.new.heap.objects ls (record c.args.told.now { cells = c.in-Err-HeapFull.cells }) c.new_nest.result q c.requires.room (sym c.has_negative.ensures ∙ c.if-has_negative.false) (nest_rule c.args.p.now own c.args.i.now c.args.found.now c.in-Dims.field-0 c.in-Dims.dims c.in-Kind.kind c.requires.row c.in-Dims.is c.in-Kind.is)
    (ap (λ (h : Contents). h.objects) c.in-Err-HeapFull.ensures.err) (cc (c.in-Err-HeapFull.is, c.in-Err-HeapFull.field-0-is)) c.new_nest.ensures.full c.new_nest.ensures.other

pub returns-in-Err-NoMemory-clause-went : goal.returns-in-Err-NoMemory-clause-went
returns-in-Err-NoMemory-clause-went c = λ own ls.
    let s = begin_by c.args.p.now c.requires.can.0 c.args.i.now c.args.found.now (window c.args.heap.now.objects c.requires.can.1 c.args.stack.now c.args.depth.now) (length c.args.stack.now) (new_arrays c.args.p.now c.in-Kind.kind c.in-Dims.dims) (nest_rule c.args.p.now c.requires.can.0 c.args.i.now c.args.found.now c.in-Dims.field-0 c.in-Dims.dims c.in-Kind.kind c.requires.row c.in-Dims.is c.in-Kind.is) c.requires.can.2 in
    let l = as_many c.args.p.now c.in-Kind.kind c.in-Dims.dims c.args.depth.now c.args.stack.now c.args.heap.now.objects c.requires.can.1 s in
    let b : ℕ = c.args.depth.now - c.from.result in
    let q : b + c.in-Dims.dims ≡ c.args.depth.now = omega (arith, l, c.from.ensures) in
    let site = c.requires.site in
    let d = site.2.dimensions c.in-Dims.field-0 c.in-Dims.dims c.in-Kind.kind c.in-Dims.is c.in-Kind.is in
    let n : ℕ = cells c.args.heap.now.objects + nest_cells (counts_in (counts_at c.args.stack.now b c.args.depth.now)) in
    let few = few_reached c.new_nest.result n (min n (2 ^ 64 - 1)) (cc (c.in-Err-NoMemory.is, c.in-Err-NoMemory.field-0-is)) c.new_nest.ensures.full in
    nest_unmade c.args.p.now (doing c.args.p.now own c.args.i.now c.args.found.now) c.in-Kind.kind c.args.stack.now b c.in-Dims.dims c.args.depth.now c.args.heap.now.objects c.new_nest.new.heap.objects ls c.args.told.now q c.requires.room (omega (arith, length-between c.args.stack.now b c.args.depth.now c.requires.room, d.0, l, c.from.ensures)) (sym c.has_negative.ensures ∙ c.if-has_negative.false) (nest_rule c.args.p.now own c.args.i.now c.args.found.now c.in-Dims.field-0 c.in-Dims.dims c.in-Kind.kind c.requires.row c.in-Dims.is c.in-Kind.is)
    (ap (λ (h : Contents). h.objects) c.in-Err-NoMemory.ensures.err) few
