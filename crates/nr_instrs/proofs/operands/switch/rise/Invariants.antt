use Rattle.std.proofs.Common.{◌≡◌, length}
use Rattle.nr_prog.specs.BodyOperands.{rises}
use Rattle.nr_instrs.proofs.operands.switch.rise.Given as goal

abbrev pub invariant-loop-rest : goal.invariant-loop-rest
invariant-loop-rest l = rises l.rest ≡ rises l.keys

abbrev pub decreases-loop-rest : goal.decreases-loop-rest
decreases-loop-rest l = length l.rest
