use Rattle.std.proofs.Common.{refl}
use Rattle.nr_model.specs.States.{Returned, Running}
use Rattle.nr_machine.specs.CallStacks.{frames_of}
use Rattle.nr_machine.proofs.Starting.{not_deep}
use Rattle.nr_machine.proofs.Settling.{given_can, given_made}
use Rattle.nr_machine.proofs.stack.CallStack.return_value.Goals as goal

pub give-requires-clause-can : goal.give-requires-clause-can
give-requires-clause-can c =
    given_can c.args.program.now c.requires.facts c.requires.left.0 c.args.heap.now.objects c.args.value (frames_of c.args.program.now c.args.self.now.frames.items c.args.self.now.values.items) c.requires.left.1 c.requires.left.2

pub returns-then-give-clause-settles : goal.returns-then-give-clause-settles
returns-then-give-clause-settles c = λ h stand gives service printed short.
    let P = c.args.program.now in
    let gs = c.give.new.self.frames.items in
    let us = c.give.new.self.values.items in
    given_made P c.requires.facts h c.args.heap.now.objects c.args.value (frames_of P c.args.self.now.frames.items c.args.self.now.values.items) stand gives (Running (frames_of P gs us)) (c.if-give.ensures.onward refl)
    c.cells-cells.ensures.few (not_deep P gs us c.if-give.ensures.stack) service printed short

pub returns-else-give-clause-settles : goal.returns-else-give-clause-settles
returns-else-give-clause-settles c = λ h stand gives service printed short.
    let P = c.args.program.now in
    given_made P c.requires.facts h c.args.heap.now.objects c.args.value (frames_of P c.args.self.now.frames.items c.args.self.now.values.items) stand gives (Returned c.args.value) (c.if-give.ensures.ended refl)
    c.cells-cells.ensures.few refl service printed short
