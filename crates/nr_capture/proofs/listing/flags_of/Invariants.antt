use Rattle.std.proofs.Common.{◌+◌, length}
use Rattle.nr_capture.proofs.Spreads.{Spreads, unflagged}
use Rattle.nr_capture.proofs.listing.flags_of.Given as goal

abbrev pub invariant-loop-node : goal.invariant-loop-node
invariant-loop-node l = Spreads l.program l.graph l.stack.items l.flags.items

abbrev pub decreases-loop-node : goal.decreases-loop-node
decreases-loop-node l = length l.stack.items + unflagged l.graph l.flags.items
