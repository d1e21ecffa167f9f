use Rattle.std.proofs.Common.{◌≡◌, find}
use Rattle.std.specs.List.{flat_map}
use Rattle.nr_linked.specs.Programs.{upward}
use Rattle.nr_links.specs.Resolution.{interface_and_above, interfaces_of, superinterfaces}
use Rattle.nr_link.specs.Declaring.{declares_method}
use Rattle.nr_link.proofs.methods.find_in_superinterfaces.Given as goal

abbrev pub invariant-loop-class : goal.invariant-loop-class
invariant-loop-class l =
    (goal.iterator-loop-class).can_next l.class-iterator ×
    (goal.iterator-loop-class).is_finite l.class-iterator ×
    (find (declares_method l.tables l.sought.name.now l.sought.desc.now) (flat_map (λ d. flat_map (interface_and_above l.tables l.most) (interfaces_of l.tables d)) (upward l.class-iterator.tables.now l.class-iterator.left l.class-iterator.next))
    ≡ find (declares_method l.tables l.sought.name.now l.sought.desc.now) (superinterfaces l.tables l.fn.class))
