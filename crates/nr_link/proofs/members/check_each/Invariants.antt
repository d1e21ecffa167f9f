use Rattle.std.proofs.Common.{◌≡◌, drop}
use Rattle.nr_linkrules.specs.ClassRules.{members_fault}
use Rattle.nr_linkrules.specs.Faults.{first_numbered}
use Rattle.nr_linkrules.specs.LinkFaults.{on_loaded}
use Rattle.nr_link.proofs.members.check_each.Given as goal

abbrev pub invariant-loop-place : goal.invariant-loop-place
invariant-loop-place l =
    first_numbered (on_loaded (members_fault l.tables)) l.place (drop l.place l.classes) ≡ first_numbered (on_loaded (members_fault l.tables)) 0 l.classes
