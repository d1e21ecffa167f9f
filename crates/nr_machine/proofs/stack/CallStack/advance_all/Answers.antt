use Rattle.std.proofs.Common.{◌≡◌, ◌+◌, ◌-◌, ◌≤◌, ◌∙◌, [], arith, subst}
use Rattle.std.specs.Prelude.{None, Option}
use Rattle.nr_model.specs.LimitedRuns.{LimitedRun, there}
use Rattle.nr_machine.specs.declared.answer.Turn.{Turn}
use Rattle.nr_machine.specs.CallStacks.{frames_of}
use Rattle.nr_machine.specs.Settles.{seen}
use Rattle.nr_machine.specs.Stays.{running}
use Rattle.nr_machine.proofs.Advances.{frames_run, joined, none_of}
use Rattle.nr_machine.proofs.stack.CallStack.advance_all.Goals as goal

pub loop-made-init : goal.loop-made-init
loop-made-init c = (c.requires.same, c.requires.stack, c.requires.short, omega arith, there)

pub advance-part-requires-clause-stands : goal.advance-part-requires-clause-stands
advance-part-requires-clause-stands c =
    let P = c.args.program.now in
    frames_run P c.requires.facts.typing c.args.service c.args.heap.now.objects c.loop-made.heap.objects (frames_of P c.args.self.now.frames.items c.args.self.now.values.items)
    (frames_of P c.loop-made.self.frames.items c.loop-made.self.values.items) c.args.printed.now.items c.loop-made.printed.items c.loop-made.made c.loop-made.invariant.4 c.requires.stands

pub returns-then-is_some-clause-advanced : goal.returns-then-is_some-clause-advanced
returns-then-is_some-clause-advanced c =
    let P = c.args.program.now in
    let s = running c.args.heap.now.objects (frames_of P c.args.self.now.frames.items c.args.self.now.values.items) c.args.printed.now.items in
    let m = running c.loop-made.heap.objects (frames_of P c.loop-made.self.frames.items c.loop-made.self.values.items) c.loop-made.printed.items in
    let answer = c.advance-part.result.answer in
    let t = seen P c.advance-part.new.heap.objects c.advance-part.new.self.frames.items c.advance-part.new.self.values.items answer c.advance-part.new.printed.items in
    joined P c.args.service c.args.steps c.loop-made.made c.advance-part.result.made s m t c.loop-made.invariant.3 c.loop-made.invariant.4 answer c.advance-part.ensures.advanced

pub loop-made-preserved : goal.loop-made-preserved
loop-made-preserved c =
    let P = c.args.program.now in
    let s = running c.args.heap.now.objects (frames_of P c.args.self.now.frames.items c.args.self.now.values.items) c.args.printed.now.items in
    let m = running c.loop-made.heap.objects (frames_of P c.loop-made.self.frames.items c.loop-made.self.values.items) c.loop-made.printed.items in
    let gs = c.advance-part.new.self.frames.items in
    let us = c.advance-part.new.self.values.items in
    let k = c.advance-part.new.heap.objects in
    let bs = c.advance-part.new.printed.items in
    let answer : Option Turn = c.advance-part.result.answer in
    let made = c.loop-made.made + c.advance-part.result.made in
    let all = joined P c.args.service c.args.steps c.loop-made.made c.advance-part.result.made s m (seen P k gs us answer bs) c.loop-made.invariant.3 c.loop-made.invariant.4 answer c.advance-part.ensures.advanced in
    let run : LimitedRun P c.args.service s [] made (running k (frames_of P gs us) bs)
    = subst (λ a. LimitedRun P c.args.service s [] made (seen P k gs us a bs)) (none_of answer c.if-is_some.ensures) all.run in
    (c.advance-part.ensures.same ∙ c.loop-made.invariant.0, c.advance-part.ensures.stack, c.advance-part.ensures.short, all.few, run)
