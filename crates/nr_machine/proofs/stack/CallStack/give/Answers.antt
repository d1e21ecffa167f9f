use Rattle.nr_model.specs.States.{Returned, Running}
use Rattle.nr_machine.specs.CallStacks.{frames_of}
use Rattle.nr_machine.proofs.Gives.{can_below, given_above}
use Rattle.nr_machine.proofs.stack.CallStack.give.Goals as goal

pub go_on-requires-clause-can : goal.go_on-requires-clause-can
go_on-requires-clause-can c =
    let P = c.args.program.now in
    can_below P c.args.value (frames_of P c.args.self.now.frames.items c.args.self.now.values.items) (frames_of P c.drop_running.new.self.frames.items c.drop_running.new.self.values.items)
    c.drop_running.ensures.dropped c.requires.can

pub returns-clause-onward : goal.returns-clause-onward
returns-clause-onward c = λ e.
    let P = c.args.program.now in
    given_above P c.args.value (frames_of P c.args.self.now.frames.items c.args.self.now.values.items) (frames_of P c.drop_running.new.self.frames.items c.drop_running.new.self.values.items)
    c.drop_running.ensures.dropped (Running (frames_of P c.go_on.new.self.frames.items c.go_on.new.self.values.items)) (c.go_on.ensures.onward e)

pub returns-clause-ended : goal.returns-clause-ended
returns-clause-ended c = λ e.
    let P = c.args.program.now in
    given_above P c.args.value (frames_of P c.args.self.now.frames.items c.args.self.now.values.items) (frames_of P c.drop_running.new.self.frames.items c.drop_running.new.self.values.items)
    c.drop_running.ensures.dropped (Returned c.args.value) (c.go_on.ensures.ended e)
