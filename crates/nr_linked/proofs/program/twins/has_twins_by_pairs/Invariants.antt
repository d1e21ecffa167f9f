use Rattle.std.proofs.Common.{◌≡◌, length}
use Rattle.nr_linked.specs.Sendable.{has_twins}
use Rattle.nr_linked.proofs.program.twins.has_twins_by_pairs.Given as goal

abbrev pub invariant-loop-first : goal.invariant-loop-first
invariant-loop-first l = has_twins l.left ≡ has_twins l.slots

abbrev pub decreases-loop-first : goal.decreases-loop-first
decreases-loop-first l = length l.left
