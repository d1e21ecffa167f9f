use Rattle.std.proofs.Common.{rules}
use Rattle.nr_serwrite.specs.Working.{pending}
use Rattle.nr_serwrite.proofs.Steps.{few_slots, is_new}
use Rattle.nr_serwrite.proofs.Turns.{node_opened, node_opened_fewer, node_short, node_still_new}
use Rattle.nr_serwrite.proofs.nodes.open_node.Goals as goal

pub node_of-node-requires : goal.node_of-node-requires
node_of-node-requires c = (is_new c.args.forms.now c.args.graph.now c.args.i (pending c.args.w.now.frames.items) c.args.w.now.handles c.requires.next c.requires.anew).1

pub describe-requires : goal.describe-requires
describe-requires c = node_short c.args.forms.now c.args.graph.now c.args.i c.node_of-node.result.now c.requires.spellable c.node_of-node.ensures

pub give-requires : goal.give-requires
give-requires c = node_still_new c.args.forms.now c.args.graph.now c.args.i c.node_of-node.result.now _ _ _ _ c.in_ok-describe.ensures c.requires.anew

pub put_size-requires : goal.put_size-requires
put_size-requires c = few_slots c.args.forms.now c.args.graph.now c.args.i c.node_of-node.result.now c.requires.spellable c.node_of-node.ensures

pub returns-clause-step : goal.returns-clause-step
returns-clause-step c =
    node_opened c.args.forms.now c.args.graph.now c.args.i c.tag.result c.node_of-node.result.now c.args.w.now.frames.items c.push.new.self.items c.frame_of.result c.args.w.now.handles c.describe.new.handles
    c.give.new.self c.args.w.now.out c.u8.new.self c.describe.new.out c.put_size.new.out c.requires.spellable c.requires.next c.requires.anew c.node_of-node.ensures c.tag.ensures
    (search rules) c.in_ok-describe.ensures (search rules) (search rules) (search rules) c.frame_of.ensures

pub returns-clause-fewer : goal.returns-clause-fewer
returns-clause-fewer c =
    node_opened_fewer c.args.forms.now c.args.graph.now c.args.i c.node_of-node.result.now c.args.w.now.frames.items c.push.new.self.items c.frame_of.result c.args.w.now.handles c.describe.new.handles
    c.give.new.self _ _ c.requires.spellable c.requires.next c.requires.anew c.node_of-node.ensures c.in_ok-describe.ensures (search rules) (search rules) c.frame_of.ensures
