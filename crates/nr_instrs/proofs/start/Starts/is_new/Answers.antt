use Rattle.std.proofs.Common.{rules, sym, ◌∙◌}
use Rattle.std.proofs.lemmas.Cmp.{ranked}
use Rattle.std.proofs.lemmas.List.Sorted.{answers_always}
use Rattle.nr_prog.specs.declared.body.instruction.Instr.{Instr}
use Rattle.nr_prog.specs.BodyStarts.{is_new, makes_object}
use Rattle.nr_instrs.proofs.Orders.{found, missed}
use Rattle.nr_instrs.proofs.start.Starts.is_new.Goals as goal

pub returns-in-Ok : goal.returns-in-Ok
unfolding is_new
returns-in-Ok c =
    let by_offset = c.in-Ok.ensures.position (λ (i : Instr). i.at) (answers_always _ _ _ (λ f a r g called. search rules)) in
    let here = ranked _ c.args.at _ (sym (by_offset c.index-instrs-place.result)) in
    rw (← c.self.view_is) (c.makes.ensures ∙ sym (found (λ (i : Instr). i.at) c.self.inside.instrs.now c.self.invariant c.args.at (λ i. makes_object i.row.family) c.in-Ok.place c.index-instrs-place.result c.in-Ok.ensures.bound here))

pub returns-in-Err : goal.returns-in-Err
unfolding is_new
returns-in-Err c =
    let by_offset = c.in-Err.ensures.position (λ (i : Instr). i.at) (answers_always _ _ _ (λ f a r g called. search rules)) in
    rw (← c.self.view_is) (sym (missed (λ (i : Instr). i.at) c.self.inside.instrs.now c.self.invariant c.args.at (λ i. makes_object i.row.family) c.in-Err.field-0 by_offset))
