use Rattle.std.proofs.Common.{◌≡◌, ◌∙◌, ap, sym, length, of_z, to_z, w16, SFits, rules}
use Rattle.std.proofs.lemmas.Int.{to_z-of_z}
use Rattle.nr_prog.specs.declared.body.instruction.Args.TheVariants as args
use Rattle.nr_model.specs.ValueRules.{increment, load, store}
use Rattle.nr_step.specs.Windows.{top_first, window}
use Rattle.nr_step.proofs.ConstantRules.{push_fits}
use Rattle.nr_step.proofs.Loads.{load_elsewhere, load_pushed, store_elsewhere}
use Rattle.nr_step.proofs.Rows.{begin_by, go_on_by}
use Rattle.nr_step.proofs.Wides.{one_of_wide, wide_inc, wide_load, wide_store}
use Rattle.nr_step.proofs.instructions.wide.wide.Goals as goal

pub load_variable-requires-clause-room : goal.load_variable-requires-clause-room
load_variable-requires-clause-room c =
    let can = c.requires.can in
    let w = window can.3 c.args.locals.now c.args.stack.now c.args.depth.now in
    let f = wide_load can.0 can.1 c.args.i.now can.2 c.in-Wide.code c.in-Wide.number w (length c.args.stack.now) c.requires.row c.in-Wide.is can.4 (sym c.is_load.ensures ∙ c.if-is_load.true) in
    push_fits can.0 can.1 c.args.i.now can.2 can.3 c.args.locals.now c.args.stack.now c.args.depth.now (load f.0 c.in-Wide.number) (f.1 can.0 can.1 can.2) (load_pushed f.0 c.in-Wide.number can.3 c.args.locals.now (top_first c.args.stack.now c.args.depth.now)) can.4

pub load_variable-requires-clause-can : goal.load_variable-requires-clause-can
load_variable-requires-clause-can c =
    let can = c.requires.can in
    let w = window can.3 c.args.locals.now c.args.stack.now c.args.depth.now in
    let f = wide_load can.0 can.1 c.args.i.now can.2 c.in-Wide.code c.in-Wide.number w (length c.args.stack.now) c.requires.row c.in-Wide.is can.4 (sym c.is_load.ensures ∙ c.if-is_load.true) in
    (f.0, can.3, begin_by can.0 can.1 c.args.i.now can.2 w (length c.args.stack.now) (load f.0 c.in-Wide.number) (f.1 can.0 can.1 can.2) can.4)

pub returns-then-is_load-clause-went : goal.returns-then-is_load-clause-went
returns-then-is_load-clause-went c = λ told P own found h.
    let can = c.requires.can in
    let w = window can.3 c.args.locals.now c.args.stack.now c.args.depth.now in
    let f = wide_load can.0 can.1 c.args.i.now can.2 c.in-Wide.code c.in-Wide.number w (length c.args.stack.now) c.requires.row c.in-Wide.is can.4 (sym c.is_load.ensures ∙ c.if-is_load.true) in
    go_on_by P own c.args.i.now found (window h c.args.locals.now c.args.stack.now c.args.depth.now) (window h c.args.locals.now c.load_variable.new.stack c.load_variable.new.depth) (load f.0 c.in-Wide.number) (f.1 P own found)
    (c.load_variable.ensures.leads f.0 h (load_elsewhere f.0 c.in-Wide.number can.3 h c.args.locals.now (top_first c.args.stack.now c.args.depth.now) (begin_by can.0 can.1 c.args.i.now can.2 w (length c.args.stack.now) (load f.0 c.in-Wide.number) (f.1 can.0 can.1 can.2) can.4)))

pub store_variable-requires-clause-can : goal.store_variable-requires-clause-can
store_variable-requires-clause-can c =
    let can = c.requires.can in
    let w = window can.3 c.args.locals.now c.args.stack.now c.args.depth.now in
    let f = wide_store can.0 can.1 c.args.i.now can.2 c.in-Wide.code c.in-Wide.number w (length c.args.stack.now) c.requires.row c.in-Wide.is can.4 (sym c.is_load.ensures ∙ c.if-is_load.false) in
    (f.0, can.3, begin_by can.0 can.1 c.args.i.now can.2 w (length c.args.stack.now) (store f.0 c.in-Wide.number) (f.1 can.0 can.1 can.2) can.4)

pub returns-else-is_load-clause-went : goal.returns-else-is_load-clause-went
returns-else-is_load-clause-went c = λ told P own found h.
    let can = c.requires.can in
    let w = window can.3 c.args.locals.now c.args.stack.now c.args.depth.now in
    let f = wide_store can.0 can.1 c.args.i.now can.2 c.in-Wide.code c.in-Wide.number w (length c.args.stack.now) c.requires.row c.in-Wide.is can.4 (sym c.is_load.ensures ∙ c.if-is_load.false) in
    go_on_by P own c.args.i.now found (window h c.args.locals.now c.args.stack.now c.args.depth.now) (window h c.store_variable.new.locals c.args.stack.now c.store_variable.new.depth) (store f.0 c.in-Wide.number) (f.1 P own found)
    (c.store_variable.ensures.leads f.0 h (store_elsewhere f.0 c.in-Wide.number can.3 h c.args.locals.now (top_first c.args.stack.now c.args.depth.now) (begin_by can.0 can.1 c.args.i.now can.2 w (length c.args.stack.now) (store f.0 c.in-Wide.number) (f.1 can.0 can.1 can.2) can.4)))

pub increment_variable-requires : goal.increment_variable-requires
increment_variable-requires c =
    let can = c.requires.can in
    let f : SFits w16 c.in-WideInc.by = search rules in
    let by = to_z w16 (of_z w16 c.in-WideInc.by) in
    let a : c.args.i.now.args ≡ args.WideInc c.in-WideInc.number by = c.in-WideInc.is ∙ ap (args.WideInc c.in-WideInc.number) (sym (to_z-of_z w16 c.in-WideInc.by f)) in
    record {
      can = (
        can.3,
        top_first c.args.stack.now c.args.depth.now,
        begin_by can.0 can.1 c.args.i.now can.2 (window can.3 c.args.locals.now c.args.stack.now c.args.depth.now) (length c.args.stack.now) (increment c.in-WideInc.number by) (wide_inc can.0 can.1 c.args.i.now can.2 c.in-WideInc.number by c.requires.row a) can.4,
      );
    }

pub returns-in-WideInc-clause-went : goal.returns-in-WideInc-clause-went
returns-in-WideInc-clause-went c = λ told P own found h.
    let f : SFits w16 c.in-WideInc.by = search rules in
    let by = to_z w16 (of_z w16 c.in-WideInc.by) in
    let a : c.args.i.now.args ≡ args.WideInc c.in-WideInc.number by = c.in-WideInc.is ∙ ap (args.WideInc c.in-WideInc.number) (sym (to_z-of_z w16 c.in-WideInc.by f)) in
    go_on_by P own c.args.i.now found (window h c.args.locals.now c.args.stack.now c.args.depth.now) (window h c.increment_variable.new.locals c.args.stack.now c.args.depth.now) (increment c.in-WideInc.number by)
    (wide_inc P own c.args.i.now found c.in-WideInc.number by c.requires.row a) (c.increment_variable.ensures.leads h (top_first c.args.stack.now c.args.depth.now))

pub unreachable-requires : goal.unreachable-requires
unreachable-requires c =
    let can = c.requires.can in
    one_of_wide can.0 can.1 c.args.i.now can.2 (window can.3 c.args.locals.now c.args.stack.now c.args.depth.now) (length c.args.stack.now) c.requires.row can.4 c.in_default.not-Wide c.in_default.not-WideInc
