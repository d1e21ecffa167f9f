use Rattle.nr_serwrite.specs.Working.{StepTo, pending, steps_of}
use Rattle.nr_serwrite.proofs.contents.put_open.Given as goal

abbrev pub invariant-loop-frame : goal.invariant-loop-frame
invariant-loop-frame l = StepTo l.forms l.graph (pending l.fn.w.frames.items) l.fn.w.handles l.fn.w.out l.w

abbrev pub decreases-loop-frame : goal.decreases-loop-frame
decreases-loop-frame l = steps_of l.graph l.w
