use Rattle.std.proofs.Common.{◌≡◌, map, take}
use Rattle.nr_instrs.proofs.start.Offsets.of.Given as goal

abbrev pub invariant-loop-instr : goal.invariant-loop-instr
invariant-loop-instr l = l.offsets ≡ map (λ r. r.at) (take l.instr-index l.instrs)
