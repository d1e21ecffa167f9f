use Rattle.std.proofs.Common.{◌∙◌, length, refl, sym, subst, ap}
use Rattle.nr_linked.specs.Programs.{method_at}
use Rattle.nr_linked.specs.declared.program.built_in.BuiltIn.TheVariants.{AbstractMethodError, IncompatibleClassChangeError}
use Rattle.nr_model.specs.CallRules.{call_selected}
use Rattle.nr_model.specs.Scripts.{Runs}
use Rattle.nr_step.specs.Instructions.{doing}
use Rattle.nr_step.specs.Windows.{top_first, window}
use Rattle.nr_step.proofs.Calling.{by_interface, interface_found, kind_called, kind_thrown, no_none, one_method, receiver_asks, receiver_null, receiver_there, interface_at, with_interface, without_interface}
use Rattle.nr_step.proofs.instructions.calls.invokeinterface.Goals as goal

pub unreachable-requires : goal.unreachable-requires
unreachable-requires c =
    let can = c.requires.can in
    let f = interface_found c.args.p.now can.0 c.args.i.now c.args.found.now (window c.args.heap.now.objects can.1 c.args.stack.now c.args.depth) (length c.args.stack.now) c.requires.row can.2 in
    c.in_default.not-Method f.method f.named f.is

pub unreachable-requires-in_default-method_at : goal.unreachable-requires-in_default-method_at
unreachable-requires-in_default-method_at c =
    let can = c.requires.can in
    let f = interface_found c.args.p.now can.0 c.args.i.now c.args.found.now (window c.args.heap.now.objects can.1 c.args.stack.now c.args.depth) (length c.args.stack.now) c.requires.row can.2 in
    no_none (method_at c.args.p.now f.method) f.info (ap (method_at c.args.p.now) (one_method c.args.found.now f.method c.in-Method.method f.named c.in-Method.named f.is c.in-Method.is) ∙ sym c.in_default-method_at.ensures) f.there

pub reference_at-requires-clause-some : goal.reference_at-requires-clause-some
reference_at-requires-clause-some c =
    let can = c.requires.can in
    receiver_asks c.args.p.now c.len.result (by_interface c.args.p.now c.in-Method.method c.in-Method.named) c.args.heap.now.objects can.1 (top_first c.args.stack.now c.args.depth) can.2.ending can.2.left (subst (λ sc. Runs sc (window c.args.heap.now.objects can.1 c.args.stack.now c.args.depth) can.2.ending can.2.left) (interface_at c.args.p.now can.0 c.args.i.now c.args.found.now c.in-Method.method c.in-Method.named c.len.result c.in-Some.info.now c.requires.row c.in-Method.is (sym c.in-Some.ensures) c.len.ensures can.2.next) can.2.runs)

pub returns-in_default-reference_at-clause-went : goal.returns-in_default-reference_at-clause-went
returns-in_default-reference_at-clause-went c = λ own ls.
    receiver_null c.throw_object.result c.args.p.now (doing c.args.p.now own c.args.i.now c.args.found.now) c.len.result (λ n. by_interface c.args.p.now c.in-Method.method c.in-Method.named) c.args.heap.now.objects c.throw_object.new.heap.objects ls (top_first c.args.stack.now c.args.depth) c.throw_object.new.told c.in_default-reference_at.ensures (interface_at c.args.p.now own c.args.i.now c.args.found.now c.in-Method.method c.in-Method.named c.len.result c.in-Some.info.now c.requires.row c.in-Method.is (sym c.in-Some.ensures) c.len.ensures) c.throw_object.ensures

pub kind_of-kind-requires : goal.kind_of-kind-requires
kind_of-kind-requires c =
    let can = c.requires.can in
    receiver_there c.args.p.now c.len.result c.in-Some-reference_at.name (by_interface c.args.p.now c.in-Method.method c.in-Method.named) c.args.heap.now.objects can.1 (top_first c.args.stack.now c.args.depth) can.2.ending can.2.left c.in-Some-reference_at.ensures (subst (λ sc. Runs sc (window c.args.heap.now.objects can.1 c.args.stack.now c.args.depth) can.2.ending can.2.left) (interface_at c.args.p.now can.0 c.args.i.now c.args.found.now c.in-Method.method c.in-Method.named c.len.result c.in-Some.info.now c.requires.row c.in-Method.is (sym c.in-Some.ensures) c.len.ensures can.2.next) can.2.runs)

pub returns-then-not-is_sub-clause-went : goal.returns-then-not-is_sub-clause-went
returns-then-not-is_sub-clause-went c = λ own ls.
    kind_thrown c.throw_object-then-not-is_sub.result c.args.p.now (doing c.args.p.now own c.args.i.now c.args.found.now) IncompatibleClassChangeError c.len.result c.in-Some-reference_at.name c.kind_of-kind.result (λ n. by_interface c.args.p.now c.in-Method.method c.in-Method.named) c.args.heap.now.objects c.throw_object-then-not-is_sub.new.heap.objects ls (top_first c.args.stack.now c.args.depth) c.throw_object-then-not-is_sub.new.told
    c.in-Some-reference_at.ensures c.kind_of-kind.ensures (λ n. without_interface c.args.p.now c.in-Method.method c.in-Method.named c.kind_of-kind.result (sym c.is_sub.ensures ∙ c.if-not-is_sub.true)) (interface_at c.args.p.now own c.args.i.now c.args.found.now c.in-Method.method c.in-Method.named c.len.result c.in-Some.info.now c.requires.row c.in-Method.is (sym c.in-Some.ensures) c.len.ensures) c.throw_object-then-not-is_sub.ensures

pub returns-in_default-selected_for-clause-went : goal.returns-in_default-selected_for-clause-went
returns-in_default-selected_for-clause-went c = λ own ls.
    kind_thrown c.throw_object-in_default-selected_for.result c.args.p.now (doing c.args.p.now own c.args.i.now c.args.found.now) AbstractMethodError c.len.result c.in-Some-reference_at.name c.kind_of-kind.result (λ n. by_interface c.args.p.now c.in-Method.method c.in-Method.named) c.args.heap.now.objects c.throw_object-in_default-selected_for.new.heap.objects ls (top_first c.args.stack.now c.args.depth) c.throw_object-in_default-selected_for.new.told
    c.in-Some-reference_at.ensures c.kind_of-kind.ensures (λ n. with_interface c.args.p.now c.in-Method.method c.in-Method.named c.kind_of-kind.result (sym c.is_sub.ensures ∙ c.if-not-is_sub.false) ∙ ap (call_selected c.args.p.now) (sym c.in_default-selected_for.ensures.selected)) (interface_at c.args.p.now own c.args.i.now c.args.found.now c.in-Method.method c.in-Method.named c.len.result c.in-Some.info.now c.requires.row c.in-Method.is (sym c.in-Some.ensures) c.len.ensures) c.throw_object-in_default-selected_for.ensures

pub returns-clause-went : goal.returns-clause-went
returns-clause-went c = λ own ls.
    (refl, kind_called c.args.p.now (doing c.args.p.now own c.args.i.now c.args.found.now) c.len.result c.in-Some-reference_at.name c.in-Some-selected_for.selected c.kind_of-kind.result (λ n. by_interface c.args.p.now c.in-Method.method c.in-Method.named) c.args.heap.now.objects ls (top_first c.args.stack.now c.args.depth) c.in-Some-reference_at.ensures c.kind_of-kind.ensures (λ n. with_interface c.args.p.now c.in-Method.method c.in-Method.named c.kind_of-kind.result (sym c.is_sub.ensures ∙ c.if-not-is_sub.false) ∙ ap (call_selected c.args.p.now) (sym c.in-Some-selected_for.ensures.selected)) (interface_at c.args.p.now own c.args.i.now c.args.found.now c.in-Method.method c.in-Method.named c.len.result c.in-Some.info.now c.requires.row c.in-Method.is (sym c.in-Some.ensures) c.len.ensures))
