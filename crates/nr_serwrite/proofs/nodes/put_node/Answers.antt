use Rattle.std.proofs.lemmas.Result.{on_ok_weaker}
use Rattle.nr_serwrite.specs.Working.{pending}
use Rattle.nr_serwrite.proofs.Turns.{as_many_steps, node_told}
use Rattle.nr_serwrite.proofs.nodes.put_node.Goals as goal

pub returns-in-Some-clause-step : goal.returns-in-Some-clause-step
returns-in-Some-clause-step c = λ kind r. on_ok_weaker c.put_handle.result (λ e.
    node_told c.args.forms.now c.args.graph.now kind c.args.i c.in-Some.handle (pending c.args.w.now.frames.items) c.args.w.now.handles c.args.w.now.out c.put_handle.new.out r c.requires.next
    c.in-Some.ensures.1 c.in-Some.ensures.0 e) c.put_handle.ensures

pub returns-in-Some-clause-fewer : goal.returns-in-Some-clause-fewer
returns-in-Some-clause-fewer c = as_many_steps c.put_handle.result _
