use Rattle.std.proofs.Common.{◌≡◌, length}
use Rattle.std.specs.Prelude.{Some, IsTrue}
use Rattle.nr_linked.specs.TypingFaults.{first_among}
use Rattle.nr_verify.specs.Walking.{are_suited, coming}
use Rattle.nr_verify.proofs.walk.check_instrs.Given as goal

abbrev pub decreases-loop-instr : goal.decreases-loop-instr
decreases-loop-instr l = length l.instrs

abbrev pub invariant-loop-instr : goal.invariant-loop-instr
invariant-loop-instr l = record {
  same : first_among l.p l.method l.body.instrs l.method.resolved (Some l.fn.entry) ≡ first_among l.p l.method l.instrs l.resolved (coming l.comes l.frame);
  suited : IsTrue (are_suited l.p l.instrs l.resolved);
}
