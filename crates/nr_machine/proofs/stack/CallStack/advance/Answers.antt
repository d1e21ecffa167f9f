use Rattle.std.proofs.Common.{◌≡◌, ◌<◌, ◌≤◌, ap, sym, subst}
use Rattle.std.specs.Prelude.{MatchOption}
use Rattle.nr_machine.specs.CallStacks.{frames_of}
use Rattle.nr_machine.specs.Settles.{Advanced, seen}
use Rattle.nr_machine.specs.Stays.{Leaves, Stayed, running}
use Rattle.nr_machine.proofs.Advances.{advanced, goes_stands, step_few, step_some}
use Rattle.nr_machine.proofs.stack.CallStack.advance.Goals as goal

pub settle-answer-requires-clause-left : goal.settle-answer-requires-clause-left
settle-answer-requires-clause-left c =
    let P = c.args.program.now in
    let facts = c.requires.facts in
    let old = frames_of P c.args.self.now.frames.items c.args.self.now.values.items in
    let new = frames_of P c.stay-stay.new.self.frames.items c.stay-stay.new.self.values.items in
    let h = c.args.heap.now.objects in
    let k = c.stay-stay.new.heap.objects in
    let made = c.stay-stay.result.made in
    let told = c.stay-stay.new.told in
    let s : Stayed P c.args.steps h old made c.stay-stay.result.flow told k new = c.stay-stay.ensures.stayed in
    let ends : (made < c.args.steps) × Leaves P new c.in-Some.flow told s.heap k
    = subst (λ flow. MatchOption flow ((made ≡ c.args.steps) × (k ≡ s.heap)) (λ flow. (made < c.args.steps) × Leaves P new flow told s.heap k)) c.in-Some.is s.ends in
    let stand = goes_stands P facts.typing h s.heap old new made s.run c.requires.stands in
    (s.heap, stand, ends.1)

pub returns-in-Some-clause-advanced : goal.returns-in-Some-clause-advanced
returns-in-Some-clause-advanced c =
    let P = c.args.program.now in
    let facts = c.requires.facts in
    let old = frames_of P c.args.self.now.frames.items c.args.self.now.values.items in
    let new = frames_of P c.stay-stay.new.self.frames.items c.stay-stay.new.self.values.items in
    let h = c.args.heap.now.objects in
    let k = c.stay-stay.new.heap.objects in
    let made = c.stay-stay.result.made in
    let told = c.stay-stay.new.told in
    let s : Stayed P c.args.steps h old made c.stay-stay.result.flow told k new = c.stay-stay.ensures.stayed in
    let ends : (made < c.args.steps) × Leaves P new c.in-Some.flow told s.heap k
    = subst (λ flow. MatchOption flow ((made ≡ c.args.steps) × (k ≡ s.heap)) (λ flow. (made < c.args.steps) × Leaves P new flow told s.heap k)) c.in-Some.is s.ends in
    let stand = goes_stands P facts.typing h s.heap old new made s.run c.requires.stands in
    let answer = c.settle-answer.result in
    let bs = c.args.printed.now.items in
    let t = seen P c.settle-answer.new.heap.objects c.settle-answer.new.self.frames.items c.settle-answer.new.self.values.items answer c.settle-answer.new.printed.items in
    subst (λ n. Advanced P c.args.service c.args.steps (running h old bs) n answer t) (sym c.with_step.ensures)
    (advanced P c.args.service c.args.steps made (running h old bs) (running s.heap new bs) t (s.run c.args.service bs c.requires.short) ends.0 answer (c.settle-answer.ensures.settles s.heap stand ends.1))
