use Rattle.std.proofs.Common.{◌≡◌, find}
use Rattle.nr_linked.specs.Programs.{superclasses, upward}
use Rattle.nr_link.specs.Declaring.{declares_method}
use Rattle.nr_link.proofs.methods.find_in_superclasses.Given as goal

abbrev pub invariant-loop-class : goal.invariant-loop-class
invariant-loop-class l =
    (goal.iterator-loop-class).can_next l.class-iterator ×
    (goal.iterator-loop-class).is_finite l.class-iterator ×
    (find (declares_method l.tables l.sought.name.now l.sought.desc.now) (upward l.class-iterator.tables.now l.class-iterator.left l.class-iterator.next)
    ≡ find (declares_method l.tables l.sought.name.now l.sought.desc.now) (superclasses l.tables l.fn.class))
