use Rattle.std.proofs.Common.{◌≡◌, ◌+◌, ◌-◌, ◌≤◌, length, drop}
use Rattle.nr_serread.specs.Items.{differs_at}
use Rattle.nr_serread.proofs.items.differs_at.Given as goal

abbrev pub invariant-loop-i : goal.invariant-loop-i
invariant-loop-i l = record {
  within : l.i ≤ length l.got;
  so_far : l.i + differs_at (drop l.i l.got) (drop l.i l.due) ≡ differs_at l.got l.due;
}

abbrev pub decreases-loop-i : goal.decreases-loop-i
decreases-loop-i l = length l.got - l.i
