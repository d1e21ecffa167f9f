use Rattle.std.proofs.Common.{◌≡◌, ◌+◌, ◌*◌, ◌≤◌, length}
use Rattle.nr_linked.specs.TypingFrames.{total_size}
use Rattle.nr_types.proofs.sizes.sum_of_sizes.Given as goal

abbrev pub decreases-loop-t : goal.decreases-loop-t
decreases-loop-t l = length l.left

abbrev pub invariant-loop-t : goal.invariant-loop-t
invariant-loop-t l = record {
  size : total_size l.fn.types ≡ l.size + total_size l.left;
  few : l.size + 2 * length l.left ≤ 2 * length l.fn.types;
}
