use Rattle.std.proofs.Common.{◌≡◌, ◌++◌, length, drop, take}
use Rattle.nr_model.specs.Steps.{spread}
use Rattle.nr_machine.proofs.stack.arguments.place_arguments.Given as goal

abbrev pub invariant-loop-arg : goal.invariant-loop-arg
invariant-loop-arg l =
    let placed = spread (take l.arg-index l.args) in
    (l.at ≡ length placed) × (l.locals ≡ placed ++ drop l.at l.initial.locals)
