use Rattle.std.proofs.Common.{◌≡◌, length}
use Rattle.nr_linked.specs.TypingFaults.{Passed, check_branches}
use Rattle.nr_verify.proofs.branches.check_branches.Given as goal

abbrev pub decreases-loop-to : goal.decreases-loop-to
decreases-loop-to l = length l.left

abbrev pub invariant-loop-to : goal.invariant-loop-to
invariant-loop-to l = (next : Passed) → check_branches l.p l.method l.frame l.fn.targets next ≡ check_branches l.p l.method l.frame l.left next
