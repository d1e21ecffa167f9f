use Rattle.std.proofs.Common.{length, sym, refl, ◌∙◌, true, false}
use Rattle.nr_model.specs.ObjectRules.{instance_of}
use Rattle.nr_step.specs.Windows.{top_first, window}
use Rattle.nr_step.proofs.Casts.{instance_asks, instance_is, instance_leads, instance_null, instance_rule, instance_there, sees}
use Rattle.nr_step.proofs.Making.{kind_found}
use Rattle.nr_step.proofs.Rows.{begin_by, go_on_by}
use Rattle.nr_step.proofs.instructions.objects.instanceof.Goals as goal

pub unreachable-requires : goal.unreachable-requires
unreachable-requires c =
    let can = c.requires.can in
    let k = kind_found c.args.p.now can.0 c.args.i.now c.args.found.now (window c.args.heap.now.objects can.1 c.args.stack.now c.args.depth.now) (length c.args.stack.now) (instance_of c.args.p.now) (instance_is c.args.p.now can.0 c.args.i.now c.args.found.now c.requires.row) can.2 in
    c.in_default.not-Kind k.0 k.1

pub reference_at-requires-clause-some : goal.reference_at-requires-clause-some
reference_at-requires-clause-some c =
    let can = c.requires.can in
    instance_asks c.args.p.now c.in-Kind.to c.args.heap.now.objects can.1 (top_first c.args.stack.now c.args.depth.now)
    (begin_by c.args.p.now can.0 c.args.i.now c.args.found.now (window c.args.heap.now.objects can.1 c.args.stack.now c.args.depth.now) (length c.args.stack.now) (instance_of c.args.p.now c.in-Kind.to) (instance_rule c.args.p.now can.0 c.args.i.now c.args.found.now c.in-Kind.to c.requires.row c.in-Kind.is) can.2)

pub kind_of-requires : goal.kind_of-requires
kind_of-requires c =
    let can = c.requires.can in
    instance_there c.args.p.now c.in-Kind.to c.in-Some.name c.args.heap.now.objects can.1 (top_first c.args.stack.now c.args.depth.now) c.in-Some.ensures
    (begin_by c.args.p.now can.0 c.args.i.now c.args.found.now (window c.args.heap.now.objects can.1 c.args.stack.now c.args.depth.now) (length c.args.stack.now) (instance_of c.args.p.now c.in-Kind.to) (instance_rule c.args.p.now can.0 c.args.i.now c.args.found.now c.in-Kind.to c.requires.row c.in-Kind.is) can.2)

pub returns-in_default-reference_at-clause-went : goal.returns-in_default-reference_at-clause-went
returns-in_default-reference_at-clause-went c = λ told own ls.
    go_on_by c.args.p.now own c.args.i.now c.args.found.now (window c.args.heap.now.objects ls c.args.stack.now c.args.depth.now) (window c.args.heap.now.objects ls c.push.new.stack c.push.new.depth) (instance_of c.args.p.now c.in-Kind.to) (instance_rule c.args.p.now own c.args.i.now c.args.found.now c.in-Kind.to c.requires.row c.in-Kind.is)
    (instance_null c.args.p.now c.in-Kind.to c.args.heap.now.objects ls (top_first c.args.stack.now c.args.depth.now) (top_first c.args.stack.now c.pop.new.depth) (top_first c.push.new.stack c.push.new.depth) c.pop.result c.in_default-reference_at.ensures c.pop.ensures.popped c.push.ensures.pushed)

pub returns-then-is-clause-went : goal.returns-then-is-clause-went
returns-then-is-clause-went c = λ told own ls.
    go_on_by c.args.p.now own c.args.i.now c.args.found.now (window c.args.heap.now.objects ls c.args.stack.now c.args.depth.now) (window c.args.heap.now.objects ls c.push-then-is.new.stack c.push-then-is.new.depth) (instance_of c.args.p.now c.in-Kind.to) (instance_rule c.args.p.now own c.args.i.now c.args.found.now c.in-Kind.to c.requires.row c.in-Kind.is)
    (instance_leads c.args.p.now c.in-Kind.to c.in-Some.name true 1 c.args.heap.now.objects ls (top_first c.args.stack.now c.args.depth.now) (top_first c.args.stack.now c.pop-2.new.depth) (top_first c.push-then-is.new.stack c.push-then-is.new.depth) c.pop-2.result c.in-Some.ensures
    (sees c.args.p.now c.in-Kind.to c.kind_of.result c.args.heap.now.objects c.in-Some.name true c.kind_of.ensures (sym c.is_sub-is.ensures ∙ c.if-is.true)) refl c.pop-2.ensures.popped c.push-then-is.ensures.pushed)

pub returns-clause-went : goal.returns-clause-went
returns-clause-went c = λ told own ls.
    go_on_by c.args.p.now own c.args.i.now c.args.found.now (window c.args.heap.now.objects ls c.args.stack.now c.args.depth.now) (window c.args.heap.now.objects ls c.push-2.new.stack c.push-2.new.depth) (instance_of c.args.p.now c.in-Kind.to) (instance_rule c.args.p.now own c.args.i.now c.args.found.now c.in-Kind.to c.requires.row c.in-Kind.is)
    (instance_leads c.args.p.now c.in-Kind.to c.in-Some.name false 0 c.args.heap.now.objects ls (top_first c.args.stack.now c.args.depth.now) (top_first c.args.stack.now c.pop-2.new.depth) (top_first c.push-2.new.stack c.push-2.new.depth) c.pop-2.result c.in-Some.ensures
    (sees c.args.p.now c.in-Kind.to c.kind_of.result c.args.heap.now.objects c.in-Some.name false c.kind_of.ensures (sym c.is_sub-is.ensures ∙ c.if-is.false)) refl c.pop-2.ensures.popped c.push-2.ensures.pushed)
