use Rattle.std.proofs.Common.{◌≡◌, ◌+◌, ◌*◌, List, length}
use Rattle.nr_serread.specs.declared.due.Due.{Due}
use Rattle.nr_serread.specs.Reading.{slots_at}
use Rattle.nr_serread.specs.Working.{state_of, Fits}
use Rattle.nr_serread.proofs.slots.read_open.Given as goal

abbrev pub invariant-loop-frame : goal.invariant-loop-frame
invariant-loop-frame l = record {
  on : (roots : List Due) → slots_at l.forms (state_of l.w roots) l.cur ≡ slots_at l.forms (state_of l.fn.w roots) l.fn.cur;
  fits : Fits l.w;
}

abbrev pub decreases-loop-frame : goal.decreases-loop-frame
decreases-loop-frame l = 2 * length l.cur.rest + length l.w.frames.items
