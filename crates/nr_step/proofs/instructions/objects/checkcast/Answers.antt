use Rattle.std.proofs.Common.{length, sym, ◌∙◌, true, false}
use Rattle.nr_model.specs.ObjectRules.{check_cast}
use Rattle.nr_step.specs.Instructions.{doing}
use Rattle.nr_step.specs.Windows.{top_first, window}
use Rattle.nr_step.proofs.Casts.{cast_asks, cast_is, cast_null, cast_passes, cast_rule, cast_there, cast_throws, sees}
use Rattle.nr_step.proofs.Making.{kind_found}
use Rattle.nr_step.proofs.Rows.{begin_by, go_on_by}
use Rattle.nr_step.proofs.instructions.objects.checkcast.Goals as goal

pub unreachable-requires : goal.unreachable-requires
unreachable-requires c =
    let can = c.requires.can in
    let k = kind_found c.args.p.now can.0 c.args.i.now c.args.found.now (window c.args.heap.now.objects can.1 c.args.stack.now c.args.depth) (length c.args.stack.now) (check_cast c.args.p.now) (cast_is c.args.p.now can.0 c.args.i.now c.args.found.now c.requires.row) can.2 in
    c.in_default.not-Kind k.0 k.1

pub reference_at-requires-clause-some : goal.reference_at-requires-clause-some
reference_at-requires-clause-some c =
    let can = c.requires.can in
    cast_asks c.args.p.now c.in-Kind.to c.args.heap.now.objects can.1 (top_first c.args.stack.now c.args.depth)
    (begin_by c.args.p.now can.0 c.args.i.now c.args.found.now (window c.args.heap.now.objects can.1 c.args.stack.now c.args.depth) (length c.args.stack.now) (check_cast c.args.p.now c.in-Kind.to) (cast_rule c.args.p.now can.0 c.args.i.now c.args.found.now c.in-Kind.to c.requires.row c.in-Kind.is) can.2)

pub returns-in_default-reference_at : goal.returns-in_default-reference_at
returns-in_default-reference_at c = λ own ls.
    go_on_by c.args.p.now own c.args.i.now c.args.found.now (window c.args.heap.now.objects ls c.args.stack.now c.args.depth) (window c.args.heap.now.objects ls c.args.stack.now c.args.depth) (check_cast c.args.p.now c.in-Kind.to) (cast_rule c.args.p.now own c.args.i.now c.args.found.now c.in-Kind.to c.requires.row c.in-Kind.is)
    (cast_null c.args.p.now c.in-Kind.to c.args.heap.now.objects ls (top_first c.args.stack.now c.args.depth) c.in_default-reference_at.ensures)

pub kind_of-requires : goal.kind_of-requires
kind_of-requires c =
    let can = c.requires.can in
    cast_there c.args.p.now c.in-Kind.to c.in-Some.name c.args.heap.now.objects can.1 (top_first c.args.stack.now c.args.depth) c.in-Some.ensures
    (begin_by c.args.p.now can.0 c.args.i.now c.args.found.now (window c.args.heap.now.objects can.1 c.args.stack.now c.args.depth) (length c.args.stack.now) (check_cast c.args.p.now c.in-Kind.to) (cast_rule c.args.p.now can.0 c.args.i.now c.args.found.now c.in-Kind.to c.requires.row c.in-Kind.is) can.2)

pub returns-then-is_sub : goal.returns-then-is_sub
returns-then-is_sub c = λ own ls.
    go_on_by c.args.p.now own c.args.i.now c.args.found.now (window c.args.heap.now.objects ls c.args.stack.now c.args.depth) (window c.args.heap.now.objects ls c.args.stack.now c.args.depth) (check_cast c.args.p.now c.in-Kind.to) (cast_rule c.args.p.now own c.args.i.now c.args.found.now c.in-Kind.to c.requires.row c.in-Kind.is)
    (cast_passes c.args.p.now c.in-Kind.to c.in-Some.name c.args.heap.now.objects ls (top_first c.args.stack.now c.args.depth) c.in-Some.ensures (sees c.args.p.now c.in-Kind.to c.kind_of.result c.args.heap.now.objects c.in-Some.name true c.kind_of.ensures (sym c.is_sub.ensures ∙ c.if-is_sub.true)))

pub returns : goal.returns
returns c = λ own ls.
    cast_throws c.throw_object.result c.args.p.now (doing c.args.p.now own c.args.i.now c.args.found.now) c.in-Kind.to c.in-Some.name c.args.heap.now.objects c.throw_object.new.heap.objects ls (top_first c.args.stack.now c.args.depth) c.throw_object.new.told c.in-Some.ensures
    (sees c.args.p.now c.in-Kind.to c.kind_of.result c.args.heap.now.objects c.in-Some.name false c.kind_of.ensures (sym c.is_sub.ensures ∙ c.if-is_sub.false)) (cast_rule c.args.p.now own c.args.i.now c.args.found.now c.in-Kind.to c.requires.row c.in-Kind.is) c.throw_object.ensures
