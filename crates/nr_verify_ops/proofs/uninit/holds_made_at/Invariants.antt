use Rattle.std.proofs.Common.{◌≡◌, length, reverse}
use Rattle.nr_linked.specs.TypingObjects.{holds_made_at}
use Rattle.nr_verify_ops.proofs.uninit.holds_made_at.Given as goal

abbrev pub decreases-loop-t : goal.decreases-loop-t
decreases-loop-t l = length l.left

abbrev pub invariant-loop-t : goal.invariant-loop-t
invariant-loop-t l = holds_made_at l.at (reverse l.fn.types) ≡ holds_made_at l.at (reverse l.left)
