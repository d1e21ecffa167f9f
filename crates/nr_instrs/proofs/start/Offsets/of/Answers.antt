use Rattle.std.proofs.Common.{ℕ, map, sym, ap, subst, ◌∙◌}
use Rattle.std.proofs.lemmas.List.{take_all}
use Rattle.nr_prog.specs.Offsets.{IsAscendingBy}
use Rattle.nr_instrs.specs.declared.raw.RawInstr.{RawInstr}
use Rattle.nr_instrs.proofs.Orders.{keys_ascend}
use Rattle.nr_instrs.proofs.start.Offsets.of.Goals as goal

pub invariant_of-result : goal.invariant_of-result
invariant_of-result c =
    let all = take_all c.loop-instr.instr-index c.args.instrs.now c.loop-instr-test.false in
    subst (IsAscendingBy (λ (n : ℕ). n)) (sym (c.loop-instr.invariant ∙ ap (map (λ (r : RawInstr). r.at)) all)) (keys_ascend (λ (r : RawInstr). r.at) c.args.instrs.now c.requires)
