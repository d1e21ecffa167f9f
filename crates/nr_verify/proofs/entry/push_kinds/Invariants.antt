use Rattle.std.proofs.Common.{◌≡◌, ◌++◌, length}
use Rattle.nr_linked.specs.TypingFrames.{of_kinds}
use Rattle.nr_verify.proofs.entry.push_kinds.Given as goal

abbrev pub decreases-loop-kind : goal.decreases-loop-kind
decreases-loop-kind l = length l.left

abbrev pub invariant-loop-kind : goal.invariant-loop-kind
invariant-loop-kind l = l.fn.types.items ++ of_kinds l.fn.kinds ≡ l.types.items ++ of_kinds l.left
