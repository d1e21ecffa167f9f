use Rattle.std.proofs.Common.{◌≡◌, drop}
use Rattle.nr_model.specs.Steps.{first_handler}
use Rattle.nr_machine.proofs.stack.handlers.first_handler.Given as goal

abbrev pub invariant-loop-i : goal.invariant-loop-i
invariant-loop-i l = first_handler l.program l.offset l.kind (drop l.i l.handlers) (drop l.i l.caught)
    ≡ first_handler l.program l.offset l.kind l.handlers l.caught
