use Rattle.nr_model.specs.declared.value.Value.TheVariants.{Ref}
use Rattle.nr_machine.specs.CallStacks.{frames_of}
use Rattle.nr_machine.proofs.Unwinds.{stands, room, handler_stack, caught_is, missed_is}
use Rattle.nr_machine.proofs.stack.CallStack.catch_thrown.Goals as goal

pub handler_of-requires-clause-stands : goal.handler_of-requires-clause-stands
handler_of-requires-clause-stands c =
    stands c.args.program.now c.args.kind (Ref c.args.thrown) c.args.self.now.frames.items c.args.self.now.values.items c.requires.stack c.pop.new.self.items c.in-Some.frame c.in-Some.ensures.items c.requires.can

pub put_back-requires-clause-stack : goal.put_back-requires-clause-stack
put_back-requires-clause-stack c =
    handler_stack c.args.program.now c.args.kind (Ref c.args.thrown) c.args.self.now.frames.items c.args.self.now.values.items c.requires.stack c.pop.new.self.items c.in-Some.frame c.in-Some.ensures.items
    c.in-Some-handler_of.place c.in-Some-handler_of.ensures.0

pub put_back-requires-clause-room : goal.put_back-requires-clause-room
put_back-requires-clause-room c =
    room c.args.program.now c.args.kind (Ref c.args.thrown) c.args.self.now.frames.items c.args.self.now.values.items c.requires.stack c.pop.new.self.items c.in-Some.frame c.in-Some.ensures.items c.requires.can
    _ c.in-Some-handler_of.ensures.1

pub returns-in-Some-handler_of-clause-caught : goal.returns-in-Some-handler_of-clause-caught
returns-in-Some-handler_of-clause-caught c = λ _.
    caught_is c.args.program.now c.args.kind (Ref c.args.thrown) c.args.self.now.frames.items c.args.self.now.values.items c.requires.stack c.pop.new.self.items c.in-Some.frame c.in-Some.ensures.items
    c.in-Some-handler_of.place c.in-Some-handler_of.ensures.0 c.in-Some-handler_of.ensures.1 (frames_of c.args.program.now c.put_back.new.self.frames.items c.put_back.new.self.values.items) c.put_back.ensures.frames

pub returns-in-None-clause-missed : goal.returns-in-None-clause-missed
returns-in-None-clause-missed c = λ _.
    missed_is c.args.program.now c.args.kind (Ref c.args.thrown) c.args.self.now.frames.items c.args.self.now.values.items c.requires.stack c.pop.new.self.items c.in-Some.frame c.in-Some.ensures.items c.in-None.ensures
