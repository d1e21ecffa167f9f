use Rattle.std.proofs.Common.{◌≡◌, drop}
use Rattle.nr_linkrules.specs.ClassRules.{named_fault}
use Rattle.nr_linkrules.specs.Faults.{first_of}
use Rattle.nr_link.proofs.above.check_interfaces.Given as goal

abbrev pub invariant-loop-index : goal.invariant-loop-index
invariant-loop-index l =
    first_of (named_fault l.tables l.class.pool) (drop l.index-index l.interfaces) ≡ first_of (named_fault l.tables l.class.pool) l.interfaces
