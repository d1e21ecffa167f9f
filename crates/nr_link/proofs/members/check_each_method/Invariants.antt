use Rattle.std.proofs.Common.{◌≡◌, drop}
use Rattle.nr_linkrules.specs.ClassRules.{method_fault}
use Rattle.nr_linkrules.specs.Faults.{first_of}
use Rattle.nr_link.proofs.members.check_each_method.Given as goal

abbrev pub invariant-loop-method : goal.invariant-loop-method
invariant-loop-method l =
    first_of (λ f. method_fault l.tables l.class.pool f.desc) (drop l.method-index l.methods) ≡ first_of (λ f. method_fault l.tables l.class.pool f.desc) l.methods
