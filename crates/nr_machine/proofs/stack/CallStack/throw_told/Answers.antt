use Rattle.std.proofs.Common.{refl}
use Rattle.nr_model.specs.States.{Running, Thrown}
use Rattle.nr_machine.specs.CallStacks.{frames_of}
use Rattle.nr_machine.proofs.Starting.{not_deep}
use Rattle.nr_model.specs.declared.value.Value.TheVariants.{Ref}
use Rattle.nr_machine.proofs.Settling.{throw_can, throw_made, throw_there}
use Rattle.nr_machine.proofs.stack.CallStack.throw_told.Goals as goal

pub kind_of-kind-requires : goal.kind_of-kind-requires
kind_of-kind-requires c =
    throw_there c.args.program.now c.requires.facts c.requires.left.0 c.args.heap.now.objects c.args.told.now
    (frames_of c.args.program.now c.args.self.now.frames.items c.args.self.now.values.items) c.requires.left.1 c.requires.left.2

pub unwind-requires-clause-can : goal.unwind-requires-clause-can
unwind-requires-clause-can c =
    throw_can c.args.program.now c.requires.facts c.requires.left.0 c.args.heap.now.objects c.args.told.now
    (frames_of c.args.program.now c.args.self.now.frames.items c.args.self.now.values.items) c.requires.left.1 c.requires.left.2 c.kind_of-kind.result c.kind_of-kind.ensures

pub returns-then-unwind-clause-settles : goal.returns-then-unwind-clause-settles
returns-then-unwind-clause-settles c = λ h stand l service printed short.
    let P = c.args.program.now in
    let gs = c.unwind.new.self.frames.items in
    let us = c.unwind.new.self.values.items in
    throw_made P c.requires.facts h c.args.heap.now.objects c.args.told.now (frames_of P c.args.self.now.frames.items c.args.self.now.values.items) stand l c.kind_of-kind.result c.kind_of-kind.ensures
    (Running (frames_of P gs us)) (c.if-unwind.ensures.caught refl) c.cells-cells.ensures.few (not_deep P gs us c.if-unwind.ensures.stack) service printed short

pub returns-else-unwind-clause-settles : goal.returns-else-unwind-clause-settles
returns-else-unwind-clause-settles c = λ h stand l service printed short.
    let P = c.args.program.now in
    throw_made P c.requires.facts h c.args.heap.now.objects c.args.told.now (frames_of P c.args.self.now.frames.items c.args.self.now.values.items) stand l c.kind_of-kind.result c.kind_of-kind.ensures
    (Thrown (Ref c.args.told.now.number)) (c.if-unwind.ensures.uncaught refl) c.cells-cells.ensures.few refl service printed short
