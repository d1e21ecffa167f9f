use Rattle.std.proofs.Common.{length, sym, ◌∙◌}
use Rattle.nr_model.specs.ArrayRules.{new_array}
use Rattle.nr_step.specs.Instructions.{doing}
use Rattle.nr_step.specs.Windows.{window}
use Rattle.nr_step.proofs.NewArrays.{newarray_rule, prim_there, primitive_found, primitive_kind}
use Rattle.nr_step.proofs.Rows.{begin_by}
use Rattle.nr_step.proofs.instructions.new_arrays.newarray.Goals as goal

pub unreachable-requires : goal.unreachable-requires
unreachable-requires c =
    let site = c.requires.site in
    let a = prim_there c.args.p.now site.0.class c.args.i.now site.1 site.2 c.requires.row site.3 in
    c.in_default.not-Prim a.0 a.1

pub unreachable-requires-in_default-primitive_of : goal.unreachable-requires-in_default-primitive_of
unreachable-requires-in_default-primitive_of c =
    let can = c.requires.can in
    let b = primitive_found c.args.p.now can.0 c.args.i.now can.1 c.in-Prim.code (window c.args.heap.now.objects can.2 c.args.stack.now c.args.depth.now) (length c.args.stack.now) c.requires.row c.in-Prim.is can.3 in
    c.in_default-primitive_of.not-Some b.0 (c.primitive_of.ensures ∙ b.1)

pub make_array-requires-clause-can : goal.make_array-requires-clause-can
make_array-requires-clause-can c =
    let can = c.requires.can in
    (can.2, begin_by c.args.p.now can.0 c.args.i.now can.1 (window c.args.heap.now.objects can.2 c.args.stack.now c.args.depth.now) (length c.args.stack.now) (new_array c.args.p.now (primitive_kind c.in-Some.base)) (newarray_rule c.args.p.now can.0 c.args.i.now can.1 c.in-Prim.code c.in-Some.base c.requires.row c.in-Prim.is (sym c.in-Some.ensures)) can.3)

pub returns-clause-went : goal.returns-clause-went
returns-clause-went c = λ own found ls.
    c.make_array.ensures.went ls (doing c.args.p.now own c.args.i.now found) (newarray_rule c.args.p.now own c.args.i.now found c.in-Prim.code c.in-Some.base c.requires.row c.in-Prim.is (sym c.in-Some.ensures))
