use Rattle.std.proofs.Common.{rules, ◌≡◌, ◌<◌}
use Rattle.nr_linked.specs.declared.program.kind.Base.TheVariants as bases
use Rattle.nr_capture.proofs.MadeKinds.{array_typed, object_typed}
use Rattle.nr_capture.proofs.making.make.Goals as goal

pub returns-in-Object-clause-typed : goal.returns-in-Object-clause-typed
returns-in-Object-clause-typed c =
    let dims : c.args.kind.dims ≡ 0 = search rules in
    let base : c.args.kind.base ≡ bases.Object c.in-Object.class = search rules in
    object_typed c.args.forms.now c.program.result.now c.args.heap.now c.make_object.new.heap c.make_object.result c.args.kind c.args.len c.in-Object.class c.requires.typed c.requires.counts dims base c.program.ensures
    c.make_object.ensures

pub returns-in_default-clause-typed : goal.returns-in_default-clause-typed
returns-in_default-clause-typed c =
    let dims : 0 < c.args.kind.dims = search rules in
    array_typed c.args.forms.now c.args.heap.now c.make_array.new.heap c.make_array.result c.args.kind c.args.len c.requires.typed c.requires.counts dims c.make_array.ensures
