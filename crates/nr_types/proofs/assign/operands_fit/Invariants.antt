use Rattle.std.proofs.Common.{◌≡◌, length, reverse}
use Rattle.nr_linked.specs.TypingFrames.{operands_fit}
use Rattle.nr_types.proofs.assign.operands_fit.Given as goal

abbrev pub decreases-loop-t : goal.decreases-loop-t
decreases-loop-t l = length l.ts

abbrev pub invariant-loop-t : goal.invariant-loop-t
invariant-loop-t l = operands_fit l.p (reverse l.fn.a) (reverse l.fn.b) ≡ operands_fit l.p (reverse l.ts) (reverse l.us)
