use Rattle.std.proofs.Common.{◌≡◌, ◌∙◌, ap, sym, length, of_z, to_z, w16, SFits, rules}
use Rattle.std.proofs.lemmas.Int.{to_z-of_z}
use Rattle.nr_prog.specs.declared.body.instruction.Args.TheVariants as args
use Rattle.nr_model.specs.ValueRules.{increment}
use Rattle.nr_step.specs.Windows.{top_first, window}
use Rattle.nr_step.proofs.Loads.{iinc_rule, inc_there}
use Rattle.nr_step.proofs.Rows.{begin_by, go_on_by}
use Rattle.nr_step.proofs.instructions.locals.iinc.Goals as goal

pub unreachable-requires : goal.unreachable-requires
unreachable-requires c =
    let can = c.requires.can in
    let a = inc_there can.0 can.1 c.args.i.now can.2 (window can.3 c.args.locals.now c.args.stack.now c.args.depth) (length c.args.stack.now) c.requires.row can.4 in
    c.in_default.not-Inc a.0 a.1 a.2

pub increment_variable-requires : goal.increment_variable-requires
increment_variable-requires c =
    let can = c.requires.can in
    let f : SFits w16 c.in-Inc.by = search rules in
    let by = to_z w16 (of_z w16 c.in-Inc.by) in
    let a : c.args.i.now.args ≡ args.Inc c.in-Inc.number by = c.in-Inc.is ∙ ap (args.Inc c.in-Inc.number) (sym (to_z-of_z w16 c.in-Inc.by f)) in
    record {
      can = (
        can.3,
        top_first c.args.stack.now c.args.depth,
        begin_by can.0 can.1 c.args.i.now can.2 (window can.3 c.args.locals.now c.args.stack.now c.args.depth) (length c.args.stack.now) (increment c.in-Inc.number by) (iinc_rule can.0 can.1 c.args.i.now can.2 c.in-Inc.number by c.requires.row a) can.4,
      );
    }

pub returns-clause-went : goal.returns-clause-went
returns-clause-went c = λ told P own found h.
    let f : SFits w16 c.in-Inc.by = search rules in
    let by = to_z w16 (of_z w16 c.in-Inc.by) in
    let a : c.args.i.now.args ≡ args.Inc c.in-Inc.number by = c.in-Inc.is ∙ ap (args.Inc c.in-Inc.number) (sym (to_z-of_z w16 c.in-Inc.by f)) in
    go_on_by P own c.args.i.now found (window h c.args.locals.now c.args.stack.now c.args.depth) (window h c.increment_variable.new.locals c.args.stack.now c.args.depth) (increment c.in-Inc.number by)
    (iinc_rule P own c.args.i.now found c.in-Inc.number by c.requires.row a) (c.increment_variable.ensures.leads h (top_first c.args.stack.now c.args.depth))
