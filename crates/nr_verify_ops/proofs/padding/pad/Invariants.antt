use Rattle.std.proofs.Common.{◌≡◌, ◌-◌, length}
use Rattle.nr_linked.specs.TypingFrames.{padded}
use Rattle.nr_verify_ops.proofs.padding.pad.Given as goal

abbrev pub decreases-loop-listed : goal.decreases-loop-listed
decreases-loop-listed l = l.places - length l.listed.items

abbrev pub invariant-loop-listed : goal.invariant-loop-listed
invariant-loop-listed l = padded l.places l.fn.listed.items ≡ padded l.places l.listed.items
