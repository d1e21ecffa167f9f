use Rattle.std.proofs.Common.{◌≡◌, drop}
use Rattle.nr_classwrite.specs.Faults.{first_fault, method_fault}
use Rattle.nr_classwrite.proofs.check.methods_fault.Given as goal

abbrev pub invariant-loop-method : goal.invariant-loop-method
invariant-loop-method l = first_fault (method_fault l.names) (drop l.method-index l.methods) ≡ first_fault (method_fault l.names) l.fn.methods
