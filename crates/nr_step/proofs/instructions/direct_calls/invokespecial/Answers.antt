use Rattle.std.proofs.Common.{◌∙◌, length, refl, sym, subst, ap}
use Rattle.nr_linked.specs.Programs.{method_at}
use Rattle.nr_linked.specs.declared.program.built_in.BuiltIn.TheVariants.{AbstractMethodError}
use Rattle.nr_model.specs.CallRules.{call_selected}
use Rattle.nr_model.specs.Scripts.{Runs}
use Rattle.nr_step.specs.Instructions.{doing}
use Rattle.nr_step.specs.Windows.{top_first, window}
use Rattle.nr_step.proofs.Calling.{kind_called, kind_comes_from, kind_goes_to, kind_thrown, no_none, one_method, receiver_asks, receiver_null, receiver_there}
use Rattle.nr_step.proofs.DirectCalls.{bodiless_facts}
use Rattle.nr_step.proofs.SpecialCalls.{by_itself, kind_there, not_out, special_at, special_found, with_another, with_itself}
use Rattle.nr_step.proofs.instructions.direct_calls.invokespecial.Goals as goal

pub unreachable-requires : goal.unreachable-requires
unreachable-requires c =
    let can = c.requires.can in
    let f = special_found c.args.p.now c.args.own.now c.args.i.now c.args.found.now (window c.args.heap.now.objects can.0 c.args.stack.now c.args.depth.now) (length c.args.stack.now) c.requires.row can.1 in
    c.in_default.not-Method f.method f.named f.is

pub unreachable-requires-in_default-method_at : goal.unreachable-requires-in_default-method_at
unreachable-requires-in_default-method_at c =
    let can = c.requires.can in
    let f = special_found c.args.p.now c.args.own.now c.args.i.now c.args.found.now (window c.args.heap.now.objects can.0 c.args.stack.now c.args.depth.now) (length c.args.stack.now) c.requires.row can.1 in
    no_none (method_at c.args.p.now f.method) f.info (ap (method_at c.args.p.now) (one_method c.args.found.now f.method c.in-Method.method f.named c.in-Method.field-1 f.is c.in-Method.is) ∙ sym c.in_default-method_at.ensures) f.there

pub reference_at-requires-clause-some : goal.reference_at-requires-clause-some
reference_at-requires-clause-some c =
    let can = c.requires.can in
    receiver_asks c.args.p.now c.len.result (by_itself c.args.p.now c.args.own.now.class c.in-Some.info.now c.in-Method.method can.1.next) c.args.heap.now.objects can.0 (top_first c.args.stack.now c.args.depth.now) can.1.ending can.1.left
    (subst (λ sc. Runs sc (window c.args.heap.now.objects can.0 c.args.stack.now c.args.depth.now) can.1.ending can.1.left) (special_at c.args.p.now c.args.own.now c.args.i.now c.args.found.now c.in-Method.method c.in-Method.field-1 c.len.result c.in-Some.info.now c.requires.row c.in-Method.is (sym c.in-Some.ensures) c.len.ensures can.1.next) can.1.runs)

pub returns-in_default-reference_at-clause-went : goal.returns-in_default-reference_at-clause-went
returns-in_default-reference_at-clause-went c = λ ls.
    receiver_null c.throw_object.result c.args.p.now (doing c.args.p.now c.args.own.now c.args.i.now c.args.found.now) c.len.result (by_itself c.args.p.now c.args.own.now.class c.in-Some.info.now c.in-Method.method) c.args.heap.now.objects c.throw_object.new.heap.objects ls (top_first c.args.stack.now c.args.depth.now) c.throw_object.new.told c.in_default-reference_at.ensures
    (special_at c.args.p.now c.args.own.now c.args.i.now c.args.found.now c.in-Method.method c.in-Method.field-1 c.len.result c.in-Some.info.now c.requires.row c.in-Method.is (sym c.in-Some.ensures) c.len.ensures) c.throw_object.ensures

pub call_itself-requires-clause-not_out : goal.call_itself-requires-clause-not_out
call_itself-requires-clause-not_out c = λ b.
    let site = c.requires.site in
    not_out c.args.p.now c.args.own.now.class c.in-Method.method c.in-Method.field-1 c.args.i.now c.args.found.now site.0 c.in-Some.info.now c.requires.row site.1 c.in-Method.is (sym c.in-Some.ensures)
    (bodiless_facts c.args.p.now c.in-Method.method c.in-Some.info.now c.tables-facts.ensures.facts (sym c.in-Some.ensures) b)

pub returns-then-is_called_itself-clause-went : goal.returns-then-is_called_itself-clause-went
returns-then-is_called_itself-clause-went c =
    let can = c.requires.can in
    let there = receiver_there c.args.p.now c.len.result c.in-Some-reference_at._receiver (by_itself c.args.p.now c.args.own.now.class c.in-Some.info.now c.in-Method.method can.1.next) c.args.heap.now.objects can.0 (top_first c.args.stack.now c.args.depth.now) can.1.ending can.1.left c.in-Some-reference_at.ensures
    (subst (λ sc. Runs sc (window c.args.heap.now.objects can.0 c.args.stack.now c.args.depth.now) can.1.ending can.1.left) (special_at c.args.p.now c.args.own.now c.args.i.now c.args.found.now c.in-Method.method c.in-Method.field-1 c.len.result c.in-Some.info.now c.requires.row c.in-Method.is (sym c.in-Some.ensures) c.len.ensures can.1.next) can.1.runs) in
    let kd = kind_there c.args.heap.now.objects c.in-Some-reference_at._receiver there in
    λ ls. c.call_itself.ensures.went ls (doing c.args.p.now c.args.own.now c.args.i.now c.args.found.now)
    (λ n e u. (
      λ r. kind_goes_to c.args.p.now (doing c.args.p.now c.args.own.now c.args.i.now c.args.found.now) c.len.result c.in-Some-reference_at._receiver kd.0 (by_itself c.args.p.now c.args.own.now.class c.in-Some.info.now c.in-Method.method) c.args.heap.now.objects ls (top_first c.args.stack.now c.args.depth.now) c.in-Some-reference_at.ensures kd.1 (special_at c.args.p.now c.args.own.now c.args.i.now c.args.found.now c.in-Method.method c.in-Method.field-1 c.len.result c.in-Some.info.now c.requires.row c.in-Method.is (sym c.in-Some.ensures) c.len.ensures) n e u
          (subst (λ sc. Runs sc (window c.args.heap.now.objects ls c.args.stack.now c.args.depth.now) e u) (sym (with_itself c.args.p.now c.args.own.now.class c.in-Some.info.now c.in-Method.method n kd.0 (sym c.is_called_itself.ensures ∙ c.if-is_called_itself.true))) r),
      λ r. subst (λ sc. Runs sc (window c.args.heap.now.objects ls c.args.stack.now c.args.depth.now) e u) (with_itself c.args.p.now c.args.own.now.class c.in-Some.info.now c.in-Method.method n kd.0 (sym c.is_called_itself.ensures ∙ c.if-is_called_itself.true))
          (kind_comes_from c.args.p.now (doing c.args.p.now c.args.own.now c.args.i.now c.args.found.now) c.len.result c.in-Some-reference_at._receiver kd.0 (by_itself c.args.p.now c.args.own.now.class c.in-Some.info.now c.in-Method.method) c.args.heap.now.objects ls (top_first c.args.stack.now c.args.depth.now) c.in-Some-reference_at.ensures kd.1 (special_at c.args.p.now c.args.own.now c.args.i.now c.args.found.now c.in-Method.method c.in-Method.field-1 c.len.result c.in-Some.info.now c.requires.row c.in-Method.is (sym c.in-Some.ensures) c.len.ensures) n e u r),
    ))

pub returns-in_default-selected_above-clause-went : goal.returns-in_default-selected_above-clause-went
returns-in_default-selected_above-clause-went c =
    let can = c.requires.can in
    let there = receiver_there c.args.p.now c.len.result c.in-Some-reference_at._receiver (by_itself c.args.p.now c.args.own.now.class c.in-Some.info.now c.in-Method.method can.1.next) c.args.heap.now.objects can.0 (top_first c.args.stack.now c.args.depth.now) can.1.ending can.1.left c.in-Some-reference_at.ensures
    (subst (λ sc. Runs sc (window c.args.heap.now.objects can.0 c.args.stack.now c.args.depth.now) can.1.ending can.1.left) (special_at c.args.p.now c.args.own.now c.args.i.now c.args.found.now c.in-Method.method c.in-Method.field-1 c.len.result c.in-Some.info.now c.requires.row c.in-Method.is (sym c.in-Some.ensures) c.len.ensures can.1.next) can.1.runs) in
    let kd = kind_there c.args.heap.now.objects c.in-Some-reference_at._receiver there in
    λ ls. kind_thrown c.throw_object-in_default-selected_above.result c.args.p.now (doing c.args.p.now c.args.own.now c.args.i.now c.args.found.now) AbstractMethodError c.len.result c.in-Some-reference_at._receiver kd.0 (by_itself c.args.p.now c.args.own.now.class c.in-Some.info.now c.in-Method.method) c.args.heap.now.objects c.throw_object-in_default-selected_above.new.heap.objects ls (top_first c.args.stack.now c.args.depth.now)
    c.throw_object-in_default-selected_above.new.told c.in-Some-reference_at.ensures kd.1
    (λ n. with_another c.args.p.now c.args.own.now.class c.in-Some.info.now c.in-Method.method n kd.0 c.selected_above.result (sym c.is_called_itself.ensures ∙ c.if-is_called_itself.false) c.selected_above.ensures.selected ∙ ap (call_selected c.args.p.now) c.in_default-selected_above.is)
    (special_at c.args.p.now c.args.own.now c.args.i.now c.args.found.now c.in-Method.method c.in-Method.field-1 c.len.result c.in-Some.info.now c.requires.row c.in-Method.is (sym c.in-Some.ensures) c.len.ensures) c.throw_object-in_default-selected_above.ensures

pub returns-clause-went : goal.returns-clause-went
returns-clause-went c =
    let can = c.requires.can in
    let there = receiver_there c.args.p.now c.len.result c.in-Some-reference_at._receiver (by_itself c.args.p.now c.args.own.now.class c.in-Some.info.now c.in-Method.method can.1.next) c.args.heap.now.objects can.0 (top_first c.args.stack.now c.args.depth.now) can.1.ending can.1.left c.in-Some-reference_at.ensures
    (subst (λ sc. Runs sc (window c.args.heap.now.objects can.0 c.args.stack.now c.args.depth.now) can.1.ending can.1.left) (special_at c.args.p.now c.args.own.now c.args.i.now c.args.found.now c.in-Method.method c.in-Method.field-1 c.len.result c.in-Some.info.now c.requires.row c.in-Method.is (sym c.in-Some.ensures) c.len.ensures can.1.next) can.1.runs) in
    let kd = kind_there c.args.heap.now.objects c.in-Some-reference_at._receiver there in
    λ ls. (
      refl,
      kind_called c.args.p.now (doing c.args.p.now c.args.own.now c.args.i.now c.args.found.now) c.len.result c.in-Some-reference_at._receiver c.in-Some-selected_above.selected kd.0 (by_itself c.args.p.now c.args.own.now.class c.in-Some.info.now c.in-Method.method) c.args.heap.now.objects ls (top_first c.args.stack.now c.args.depth.now) c.in-Some-reference_at.ensures kd.1
          (λ n. with_another c.args.p.now c.args.own.now.class c.in-Some.info.now c.in-Method.method n kd.0 c.selected_above.result (sym c.is_called_itself.ensures ∙ c.if-is_called_itself.false) c.selected_above.ensures.selected ∙ ap (call_selected c.args.p.now) c.in-Some-selected_above.is)
          (special_at c.args.p.now c.args.own.now c.args.i.now c.args.found.now c.in-Method.method c.in-Method.field-1 c.len.result c.in-Some.info.now c.requires.row c.in-Method.is (sym c.in-Some.ensures) c.len.ensures),
    )
