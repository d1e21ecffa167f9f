use Rattle.std.proofs.lemmas.Result.{on_ok_weaker}
use Rattle.nr_serwrite.specs.Working.{pending}
use Rattle.nr_serwrite.proofs.Turns.{as_many_steps, slot_in_range, slot_int, slot_long, slot_next, slot_node, slot_null, slot_reference}
use Rattle.nr_serwrite.proofs.contents.put_slot.Goals as goal

pub put_int-requires : goal.put_int-requires
put_int-requires c = slot_in_range c.args.forms.now c.args.graph.now c.args.kind c.args.slot c.in-Int.n _ _ c.requires.next c.in-Int.is

pub put_node-requires-clause-next : goal.put_node-requires-clause-next
put_node-requires-clause-next c = slot_next c.args.forms.now c.args.graph.now c.args.kind c.args.slot c.in-Node.i _ _ c.requires.next c.in-Node.is

pub returns-in-Int-clause-step : goal.returns-in-Int-clause-step
returns-in-Int-clause-step c = on_ok_weaker c.put_int.result (λ e.
    slot_int c.args.forms.now c.args.graph.now c.args.kind c.args.slot c.in-Int.n (pending c.args.w.now.frames.items) c.args.w.now.handles c.args.w.now.out c.put_int.new.out c.requires.next c.in-Int.is e)
    c.put_int.ensures

pub returns-in-Int-clause-fewer : goal.returns-in-Int-clause-fewer
returns-in-Int-clause-fewer c = as_many_steps c.put_int.result _

pub returns-in-Long-clause-step : goal.returns-in-Long-clause-step
returns-in-Long-clause-step c = on_ok_weaker c.u64.result (λ e.
    slot_long c.args.forms.now c.args.graph.now c.args.kind c.args.slot c.in-Long.n c.cast_unsigned.result (pending c.args.w.now.frames.items) c.args.w.now.handles c.args.w.now.out c.u64.new.self
    c.requires.next c.in-Long.is c.cast_unsigned.ensures e) c.u64.ensures.ok

pub returns-in-Long-clause-fewer : goal.returns-in-Long-clause-fewer
returns-in-Long-clause-fewer c = as_many_steps c.u64.result _

pub returns-in-Null-clause-step : goal.returns-in-Null-clause-step
returns-in-Null-clause-step c = on_ok_weaker c.u8.result (λ e.
    slot_null c.args.forms.now c.args.graph.now c.args.kind c.args.slot (pending c.args.w.now.frames.items) c.args.w.now.handles c.args.w.now.out c.u8.new.self c.requires.next c.in-Null.is e) c.u8.ensures.ok

pub returns-in-Null-clause-fewer : goal.returns-in-Null-clause-fewer
returns-in-Null-clause-fewer c = as_many_steps c.u8.result _

pub returns-in-Node-clause-step : goal.returns-in-Node-clause-step
returns-in-Node-clause-step c = on_ok_weaker c.put_node.result (λ s.
    slot_node c.args.forms.now c.args.graph.now c.args.kind c.args.slot c.in-Node.i _ _ _ _ _ _ c.in-Node.is s)
    (c.put_node.ensures.step c.args.kind (slot_reference c.args.forms.now c.args.graph.now c.args.kind c.args.slot c.in-Node.i _ _ c.requires.next c.in-Node.is))
