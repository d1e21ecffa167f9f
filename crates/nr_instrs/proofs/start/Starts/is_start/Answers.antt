use Rattle.std.proofs.Common.{rules, ◌∙◌}
use Rattle.std.proofs.lemmas.List.Sorted.{answers_always}
use Rattle.nr_prog.specs.declared.body.instruction.Instr.{Instr}
use Rattle.nr_prog.specs.BodyStarts.{is_start}
use Rattle.nr_instrs.proofs.Orders.{tells}
use Rattle.nr_instrs.proofs.start.Starts.is_start.Goals as goal

pub returns : goal.returns
unfolding is_start
returns c =
    let facts = c.binary_search_by_key.ensures in
    let by_offset = facts.position (λ (i : Instr). i.at) (answers_always _ _ _ (λ f a r g called. search rules)) in
    rw (← c.self.view_is) (c.is_ok.ensures.value ∙ tells (λ (i : Instr). i.at) c.self.inside.instrs.now c.self.invariant c.args.at c.binary_search_by_key.result facts.bound by_offset)
