use Rattle.std.proofs.Common.{◌≡◌}
use Rattle.nr_machine.proofs.Staying.{Staying}
use Rattle.nr_machine.proofs.stack.stay.stay_in_frame.Given as goal

abbrev pub invariant-loop-made : goal.invariant-loop-made
invariant-loop-made l = (l.selections ≡ l.program)
    × Staying l.program l.initial.heap.objects l.initial.frame l.initial.locals l.initial.stack l.made l.heap.objects l.frame l.locals l.stack
