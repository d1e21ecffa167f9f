use Rattle.std.proofs.Common.{◌≡◌, length}
use Rattle.nr_model.specs.declared.value.Value.TheVariants.{Ref}
use Rattle.nr_model.specs.Steps.{unwound}
use Rattle.nr_machine.specs.CallStacks.{IsStack, frames_of}
use Rattle.nr_machine.proofs.stack.CallStack.unwind.Given as goal

abbrev pub invariant-loop-kind : goal.invariant-loop-kind
invariant-loop-kind l = IsStack l.program l.self.frames.items l.self.values.items
    × (unwound l.program l.kind (Ref l.thrown) (frames_of l.program l.self.frames.items l.self.values.items)
    ≡ unwound l.program l.kind (Ref l.thrown) (frames_of l.program l.initial.self.frames.items l.initial.self.values.items))

abbrev pub decreases-loop-kind : goal.decreases-loop-kind
decreases-loop-kind l = length l.self.frames.items
