use Rattle.std.proofs.Common.{◌≡◌, ◌-◌, ◌≤◌, [], length}
use Rattle.nr_model.specs.LimitedRuns.{LimitedRun}
use Rattle.nr_model.specs.Outcomes.{max_printed}
use Rattle.nr_machine.specs.CallStacks.{IsStack, frames_of}
use Rattle.nr_machine.specs.Stays.{running}
use Rattle.nr_machine.proofs.stack.CallStack.advance_all.Given as goal

abbrev pub invariant-loop-made : goal.invariant-loop-made
invariant-loop-made l = (l.selections ≡ l.program) × IsStack l.program l.self.frames.items l.self.values.items × (length l.printed.items ≤ max_printed) × (l.made ≤ l.steps)
    × LimitedRun l.program l.service (running l.initial.heap.objects (frames_of l.program l.initial.self.frames.items l.initial.self.values.items) l.initial.printed.items) [] l.made
    (running l.heap.objects (frames_of l.program l.self.frames.items l.self.values.items) l.printed.items)

abbrev pub decreases-loop-made : goal.decreases-loop-made
decreases-loop-made l = l.steps - l.made
