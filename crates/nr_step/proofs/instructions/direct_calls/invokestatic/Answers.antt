use Rattle.std.proofs.Common.{◌∙◌, length, refl, sym, ap}
use Rattle.nr_linked.specs.BuiltIns.{built_in}
use Rattle.nr_linked.specs.Programs.{method_at}
use Rattle.nr_linked.specs.declared.program.built_in.BuiltIn.TheVariants.{Out}
use Rattle.nr_step.specs.Instructions.{doing}
use Rattle.nr_step.specs.Windows.{top_first, window}
use Rattle.nr_step.proofs.Calling.{no_none, one_method}
use Rattle.nr_step.proofs.DirectCalls.{absent_thrown, bodiless_facts, no_init, static_at, static_called, static_found, static_prints, unequal}
use Rattle.nr_step.proofs.instructions.direct_calls.invokestatic.Goals as goal

pub unreachable-requires : goal.unreachable-requires
unreachable-requires c =
    let can = c.requires.can in
    let f = static_found c.args.p.now can.0 c.args.i.now c.args.found.now (window c.args.heap.now.objects can.1 c.args.stack.now c.args.depth) (length c.args.stack.now) c.requires.row can.2 in
    c.in_default.not-Method f.method f.named f.is

pub unreachable-requires-in_default-method_at : goal.unreachable-requires-in_default-method_at
unreachable-requires-in_default-method_at c =
    let can = c.requires.can in
    let f = static_found c.args.p.now can.0 c.args.i.now c.args.found.now (window c.args.heap.now.objects can.1 c.args.stack.now c.args.depth) (length c.args.stack.now) c.requires.row can.2 in
    no_none (method_at c.args.p.now f.method) f.info (ap (method_at c.args.p.now) (one_method c.args.found.now f.method c.in-Method.method f.named c.in-Method.field-1 f.is c.in-Method.is) ∙ sym c.in_default-method_at.ensures) f.there

pub returns-then-is_some : goal.returns-then-is_some
returns-then-is_some c = λ own ls. (
  refl,
  static_called c.args.p.now (doing c.args.p.now own c.args.i.now c.args.found.now) c.in-Method.method c.in-Some.info.now (window c.args.heap.now.objects ls c.args.stack.now c.args.depth)
      (static_at c.args.p.now own c.args.i.now c.args.found.now c.in-Method.method c.in-Method.field-1 c.requires.row c.in-Method.is) (sym c.in-Some.ensures) (sym c.is_some.ensures ∙ c.if-is_some.true),
)

pub returns-then-info-built_in : goal.returns-then-info-built_in
returns-then-info-built_in c = λ own ls.
    let b = sym c.is_some.ensures ∙ c.if-is_some.false in (
      refl,
      static_prints c.args.p.now (doing c.args.p.now own c.args.i.now c.args.found.now) c.in-Method.method c.in-Some.info.now (static_at c.args.p.now own c.args.i.now c.args.found.now c.in-Method.method c.in-Method.field-1 c.requires.row c.in-Method.is) (sym c.in-Some.ensures)
          b (c.if-info-built_in.true ∙ c.built_in.ensures) (bodiless_facts c.args.p.now c.in-Method.method c.in-Some.info.now c.tables-facts.ensures.facts (sym c.in-Some.ensures) b),
    )

pub returns : goal.returns
returns c = λ own ls.
    let site = c.requires.site in
    absent_thrown c.throw_object.result c.args.p.now (doing c.args.p.now own c.args.i.now c.args.found.now) c.in-Method.method c.in-Some.info.now c.args.heap.now.objects c.throw_object.new.heap.objects ls (top_first c.args.stack.now c.args.depth) c.throw_object.new.told
    (static_at c.args.p.now own c.args.i.now c.args.found.now c.in-Method.method c.in-Method.field-1 c.requires.row c.in-Method.is) (sym c.in-Some.ensures) (sym c.is_some.ensures ∙ c.if-is_some.false)
    (unequal c.in-Some.info.now.class (built_in c.args.p.now Out) (λ e. c.if-info-built_in.false (e ∙ sym c.built_in.ensures)))
    (no_init c.args.p.now site.0.class c.in-Method.method c.in-Method.field-1 c.args.i.now c.args.found.now site.1 c.in-Some.info.now c.requires.row site.2 c.in-Method.is (sym c.in-Some.ensures)) c.throw_object.ensures
