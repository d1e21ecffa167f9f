use Rattle.std.proofs.Common.{◌≡◌, length, drop}
use Rattle.nr_verify.specs.First.{program_fault, first_refused}
use Rattle.nr_verify.proofs.program.check_methods.Given as goal

abbrev pub decreases-loop-method : goal.decreases-loop-method
decreases-loop-method l = length l.left

abbrev pub invariant-loop-method : goal.invariant-loop-method
invariant-loop-method l = record {
  same : program_fault l.p ≡ first_refused l.p l.left;
  behind : l.left ≡ drop l.id l.p.methods;
}
