use Rattle.std.proofs.Common.{◌≡◌, drop}
use Rattle.nr_linkrules.specs.ClassRules.{reserved_fault}
use Rattle.nr_linkrules.specs.Faults.{first_of}
use Rattle.nr_link.proofs.list.check_all_reserved.Given as goal

abbrev pub invariant-loop-loaded : goal.invariant-loop-loaded
invariant-loop-loaded l = first_of reserved_fault (drop l.loaded-index l.classes) ≡ first_of reserved_fault l.classes
