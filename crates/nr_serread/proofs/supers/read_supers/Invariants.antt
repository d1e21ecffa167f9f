use Rattle.std.proofs.Common.{◌≡◌, length}
use Rattle.nr_serread.specs.Describing.{supers_at}
use Rattle.nr_serread.proofs.supers.read_supers.Given as goal

abbrev pub invariant-loop-left : goal.invariant-loop-left
invariant-loop-left l = supers_at l.forms l.left l.handles l.cur
    ≡ supers_at l.forms l.fn.supers l.fn.handles l.fn.cur

abbrev pub decreases-loop-left : goal.decreases-loop-left
decreases-loop-left l = length l.left
