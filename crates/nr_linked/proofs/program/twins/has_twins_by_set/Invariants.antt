use Rattle.std.proofs.Common.{◌≡◌, ◌||◌, length}
use Rattle.std.specs.List.{list_any}
use Rattle.nr_linked.specs.SeenSlots.{has}
use Rattle.nr_linked.specs.Sendable.{has_twins}
use Rattle.nr_linked.proofs.program.twins.has_twins_by_set.Given as goal

abbrev pub invariant-loop-first : goal.invariant-loop-first
invariant-loop-first l = (list_any (has l.seen) l.left || has_twins l.left) ≡ has_twins l.slots

abbrev pub decreases-loop-first : goal.decreases-loop-first
decreases-loop-first l = length l.left
