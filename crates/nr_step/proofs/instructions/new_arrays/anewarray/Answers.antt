use Rattle.std.proofs.Common.{length}
use Rattle.nr_model.specs.ArrayRules.{new_array}
use Rattle.nr_step.specs.Instructions.{doing}
use Rattle.nr_step.specs.Windows.{window}
use Rattle.nr_step.proofs.NewArrays.{anewarray_rule, element_found, pool_there}
use Rattle.nr_step.proofs.Rows.{begin_by}
use Rattle.nr_step.proofs.instructions.new_arrays.anewarray.Goals as goal

pub unreachable-requires : goal.unreachable-requires
unreachable-requires c =
    let can = c.requires.can in
    let site = c.requires.site in
    let a = pool_there c.args.p.now site.0.class c.args.i.now c.args.found.now site.1 c.requires.row site.2 in
    let k = element_found c.args.p.now can.0 c.args.i.now c.args.found.now a.0 (window c.args.heap.now.objects can.1 c.args.stack.now c.args.depth.now) (length c.args.stack.now) c.requires.row a.1 can.2 in
    c.in_default.not-Kind k.0 k.1

pub make_array-requires-clause-can : goal.make_array-requires-clause-can
make_array-requires-clause-can c =
    let can = c.requires.can in
    let site = c.requires.site in
    let a = pool_there c.args.p.now site.0.class c.args.i.now c.args.found.now site.1 c.requires.row site.2 in
    (can.1, begin_by c.args.p.now can.0 c.args.i.now c.args.found.now (window c.args.heap.now.objects can.1 c.args.stack.now c.args.depth.now) (length c.args.stack.now) (new_array c.args.p.now c.in-Kind.elem) (anewarray_rule c.args.p.now can.0 c.args.i.now c.args.found.now a.0 c.in-Kind.elem c.requires.row a.1 c.in-Kind.is) can.2)

pub returns-clause-went : goal.returns-clause-went
returns-clause-went c = λ own ls.
    let site = c.requires.site in
    let a = pool_there c.args.p.now site.0.class c.args.i.now c.args.found.now site.1 c.requires.row site.2 in
    c.make_array.ensures.went ls (doing c.args.p.now own c.args.i.now c.args.found.now) (anewarray_rule c.args.p.now own c.args.i.now c.args.found.now a.0 c.in-Kind.elem c.requires.row a.1 c.in-Kind.is)
