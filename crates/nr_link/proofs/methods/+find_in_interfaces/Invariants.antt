use Rattle.nr_link.specs.Declaring.{declares_method}
use Rattle.nr_link.proofs.Interfaces.{Left}
use Rattle.nr_link.proofs.methods.+find_in_interfaces.Given as goal

abbrev pub decreases-find_in_interfaces : goal.decreases-find_in_interfaces
decreases-find_in_interfaces l = l.left

abbrev pub invariant-loop-class : goal.invariant-loop-class
invariant-loop-class l = Left l.tables (declares_method l.tables l.sought.name.now l.sought.desc.now) l.left l.interfaces l.class-index
