use Rattle.std.proofs.Common.{◌+◌, ◌-◌, ◌<◌, ◌≤◌, ◌∙◌, length, subst, sym, ap, arith, rules, pos}
use Rattle.nr_model.specs.declared.value.Value.TheVariants.{Int}
use Rattle.nr_step.specs.NestedArrays.{counts_in, nest_cells}
use Rattle.nr_model.specs.Heaps.{cells}
use Rattle.nr_model.specs.Outcomes.{max_cells}
use Rattle.nr_step.proofs.NestedArrays.{array_keeps, array_stays, counts_split, deep_cells, filling_begins, filling_more, filling_room, flat_cells, inner_length, inner_of, made_keeps, no_counts}
use Rattle.nr_step.proofs.instructions.nested_arrays.+make_nest.Goals as goal

pub loop-left-init : goal.loop-left-init
loop-left-init t c = filling_begins c.args.heap.now c.new_array.new.self _ (counts_in (inner_of c.args.counts.now)) c.in-Ok.name c.count_in-len.result c.in-Ok.ensures.made

pub make_nest-part-requires : goal.make_nest-part-requires
make_nest-part-requires t c =
    let is = counts_split c.args.counts.now c.count_in-len.result (Int (pos 0)) c.requires.some c.count_in-len.ensures in
    let l = inner_length c.args.counts.now c.requires.some in
    let r = filling_room c.args.heap.now c.new_array.new.self c.loop-left.heap _ (counts_in (inner_of c.args.counts.now)) c.in-Ok.name c.count_in-len.result c.loop-left.left c.loop-left.invariant c.loop-left-test.true c.in-Ok.ensures.made
    (subst (λ ns. cells c.args.heap.now.objects + nest_cells ns ≤ max_cells) is c.requires.few) (subst (λ ns. nest_cells ns ≤ c.args.heap.now.spare) is c.requires.room) in
    (search rules, (search rules, (omega (arith, l, c.requires.dims), (r.0, r.1))))

pub loop-left-preserved : goal.loop-left-preserved
loop-left-preserved t c = filling_more c.args.heap.now c.new_array.new.self c.loop-left.heap c.make_nest-part.new.heap c.set_slot.new.self _ (counts_in (inner_of c.args.counts.now)) c.in-Ok.name c.count_in-len.result c.loop-left.left c.make_nest-part.result
    c.loop-left.invariant c.loop-left-test.true c.make_nest-part.ensures.made c.make_nest-part.ensures.cells c.make_nest-part.ensures.room c.make_nest-part.ensures.kept c.in-Ok.ensures.made.fresh c.set_slot.ensures

pub returns-then-is_empty-clause-cells : goal.returns-then-is_empty-clause-cells
returns-then-is_empty-clause-cells t c =
    let is = counts_split c.args.counts.now c.count_in-len.result (Int (pos 0)) c.requires.some c.count_in-len.ensures in
    let x = flat_cells c.count_in-len.result (counts_in (inner_of c.args.counts.now)) c.args.heap.now c.new_array.new.self c.in-Ok.name _ (no_counts (inner_of c.args.counts.now) c.if-is_empty.ensures) c.in-Ok.ensures.made in
    x ∙ ap (λ ns. cells c.args.heap.now.objects + nest_cells ns) (sym is)

pub returns-then-is_empty-clause-kept : goal.returns-then-is_empty-clause-kept
returns-then-is_empty-clause-kept t c = made_keeps c.args.heap.now c.new_array.new.self c.in-Ok.name _ c.in-Ok.ensures.made

pub returns-clause-cells : goal.returns-clause-cells
returns-clause-cells t c =
    let is = counts_split c.args.counts.now c.count_in-len.result (Int (pos 0)) c.requires.some c.count_in-len.ensures in
    let x = deep_cells c.count_in-len.result c.loop-left.left (counts_in (inner_of c.args.counts.now)) c.args.heap.now c.new_array.new.self c.loop-left.heap c.in-Ok.name _ c.in-Ok.ensures.made c.loop-left.invariant (omega (arith, c.loop-left-test.false)) in
    x ∙ ap (λ ns. cells c.args.heap.now.objects + nest_cells ns) (sym is)

pub set_slot-requires-clause-keeps : goal.set_slot-requires-clause-keeps
set_slot-requires-clause-keeps t c =
    let some : 0 < length (inner_of c.args.counts.now) = search rules in
    let l = inner_length c.args.counts.now c.requires.some in
    array_keeps c.make_nest-part.new.heap.objects c.in-Ok.name c.count_in-len.result c.make_nest-part.result (record { dims = c.args.kind.dims - 1; base = c.args.kind.base }) (omega (arith, l, some, c.requires.dims))
    (array_stays c.loop-left.heap.objects c.make_nest-part.new.heap.objects c.in-Ok.name c.count_in-len.result _ c.make_nest-part.ensures.kept c.loop-left.invariant.array)
