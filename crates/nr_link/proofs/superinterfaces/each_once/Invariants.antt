use Rattle.nr_link.proofs.Once.{Kept}
use Rattle.nr_link.proofs.superinterfaces.each_once.Given as goal

abbrev pub invariant-loop-class : goal.invariant-loop-class
invariant-loop-class l = Kept l.once l.seen l.classes l.class-index
