use Rattle.std.proofs.Common.{◌≡◌, refl, sym, ap₂}
use Rattle.nr_model.specs.Heaps.{Heap}
use Rattle.nr_model.specs.States.{Running}
use Rattle.nr_machine.specs.CallStacks.{frames_of}
use Rattle.nr_machine.specs.Stays.{running}
use Rattle.nr_machine.proofs.Settling.{call_can, call_deep, call_made, call_stays}
use Rattle.nr_machine.proofs.Starting.{not_deep}
use Rattle.nr_machine.proofs.stack.CallStack.call_told.Goals as goal

pub enter-requires-clause-can : goal.enter-requires-clause-can
enter-requires-clause-can c =
    call_can c.args.program.now c.requires.facts c.requires.left.0 c.args.heap.now.objects c.args.told.now
    (frames_of c.args.program.now c.args.self.now.frames.items c.args.self.now.values.items) c.requires.left.1 c.requires.left.2

pub returns-then-enter-clause-settles : goal.returns-then-enter-clause-settles
returns-then-enter-clause-settles c = λ h stand l printed short.
    let P = c.args.program.now in
    let gs = c.enter.new.self.frames.items in
    let us = c.enter.new.self.values.items in
    call_made P c.requires.facts h c.args.heap.now.objects c.args.told.now (frames_of P c.args.self.now.frames.items c.args.self.now.values.items) stand l
    (Running (frames_of P gs us)) (c.if-enter.ensures.entered refl) (not_deep P gs us c.if-enter.ensures.stack) c.args.service printed short
    (c.asked_method.ensures.own c.in_default.is h printed)

pub returns-else-enter-clause-settles : goal.returns-else-enter-clause-settles
returns-else-enter-clause-settles c = λ h stand l printed short.
    let P = c.args.program.now in
    let old = frames_of P c.args.self.now.frames.items c.args.self.now.values.items in
    let same = c.if-enter.ensures.unchanged refl in
    let h_is : h ≡ c.args.heap.now.objects = call_stays P c.requires.facts h c.args.heap.now.objects c.args.told.now old l in (
      ap₂ (λ (k : Heap) fs. running k fs printed) (sym h_is) (ap₂ (frames_of P) same.0 same.1),
      call_deep P c.requires.facts h c.args.heap.now.objects c.args.told.now old stand l (c.if-enter.ensures.too_deep refl) c.args.service printed (c.asked_method.ensures.own c.in_default.is h printed),
    )
