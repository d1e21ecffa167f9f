use Rattle.std.proofs.Common.{◌-◌, ◌<◌, ◌≤◌, ℕ, length}
use Rattle.nr_machine.proofs.InFrame.{IsAt}
use Rattle.nr_machine.proofs.stack.places.place_at.Given as goal

abbrev pub invariant-loop-low : goal.invariant-loop-low
invariant-loop-low l = (l.high ≤ length l.code) × (k : ℕ) × (l.low ≤ k) × (k < l.high) × IsAt l.code k l.offset

abbrev pub decreases-loop-low : goal.decreases-loop-low
decreases-loop-low l = l.high - l.low
