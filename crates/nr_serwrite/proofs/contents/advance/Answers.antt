use Rattle.std.proofs.Common.{rules, length}
use Rattle.std.proofs.lemmas.Result.{on_ok_weaker}
use Rattle.nr_serwrite.specs.Working.{pending}
use Rattle.nr_serwrite.proofs.Turns.{frame_less, frame_next, frame_over, frame_over_less, frame_step}
use Rattle.nr_serwrite.proofs.contents.advance.Goals as goal

pub returns-in-None-clause-step : goal.returns-in-None-clause-step
returns-in-None-clause-step c = frame_over c.args.forms.now c.args.graph.now c.args.frame (pending c.args.w.now.frames.items) c.args.w.now.handles c.args.w.now.out c.in-None.ensures c.requires.next

pub returns-in-None-clause-smaller : goal.returns-in-None-clause-smaller
returns-in-None-clause-smaller c = frame_over_less c.args.forms.now c.args.graph.now c.args.frame (pending c.args.w.now.frames.items) (length c.args.w.now.frames.items) c.args.w.now.handles

pub put_slot-requires-clause-next : goal.put_slot-requires-clause-next
put_slot-requires-clause-next c =
    frame_next c.args.forms.now c.args.graph.now c.args.frame c.in-Some.rest c.in-Some.kind c.in-Some.slot c.args.w.now.frames.items c.push.new.self.items c.args.w.now.handles c.in-Some.ensures (search rules)
    c.requires.next

pub returns-in_ok-push-in-Some-clause-step : goal.returns-in_ok-push-in-Some-clause-step
returns-in_ok-push-in-Some-clause-step c = on_ok_weaker c.put_slot.result (λ s.
    frame_step c.args.forms.now c.args.graph.now c.args.frame c.in-Some.rest c.in-Some.kind c.in-Some.slot c.args.w.now.frames.items c.push.new.self.items _ _ _ _ _ c.in-Some.ensures (search rules) s)
    c.put_slot.ensures.step

pub returns-in_ok-push-in-Some-clause-smaller : goal.returns-in_ok-push-in-Some-clause-smaller
returns-in_ok-push-in-Some-clause-smaller c = on_ok_weaker c.put_slot.result (λ l.
    frame_less c.args.forms.now c.args.graph.now _ c.args.frame c.in-Some.rest c.in-Some.kind c.in-Some.slot c.args.w.now.frames.items c.push.new.self.items c.args.w.now.handles c.in-Some.ensures (search rules) l)
    c.put_slot.ensures.fewer
