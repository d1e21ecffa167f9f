use Rattle.nr_link.proofs.Once.{Built}
use Rattle.nr_link.proofs.superinterfaces.interface_lists.Given as goal

abbrev pub invariant-loop-class : goal.invariant-loop-class
invariant-loop-class l = Built l.tables l.lists l.class
