use Rattle.std.proofs.Common.{◌≡◌, ◌++◌, length}
use Rattle.nr_linked.specs.TypingFrames.{in_places}
use Rattle.nr_verify.proofs.entry.in_places.Given as goal

abbrev pub decreases-loop-t : goal.decreases-loop-t
decreases-loop-t l = length l.left

abbrev pub invariant-loop-t : goal.invariant-loop-t
invariant-loop-t l = in_places l.fn.types ≡ l.places.items ++ in_places l.left
