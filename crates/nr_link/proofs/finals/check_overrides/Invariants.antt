use Rattle.std.proofs.Common.{◌≡◌, ◌-◌}
use Rattle.std.specs.List.{range_with_len}
use Rattle.nr_linked.specs.Programs.{methods_of}
use Rattle.nr_linkrules.specs.ClassRules.{override_fault}
use Rattle.nr_linkrules.specs.Faults.{first_of}
use Rattle.nr_link.proofs.finals.check_overrides.Given as goal

abbrev pub invariant-loop-method : goal.invariant-loop-method
invariant-loop-method l =
    first_of (override_fault l.tables l.name) (range_with_len l.method (l.end - l.method)) ≡ first_of (override_fault l.tables l.name) (methods_of l.tables l.class)
