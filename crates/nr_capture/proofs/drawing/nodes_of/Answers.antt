use Rattle.std.proofs.Common.{rules, ◌≡◌, length, sym}
use Rattle.nr_capture.proofs.Nodes.{all_drawn, name_inside, next_met, one_drawn}
use Rattle.nr_capture.proofs.drawing.nodes_of.Goals as goal

pub node_of-requires-clause-inside : goal.node_of-requires-clause-inside
node_of-requires-clause-inside c =
    name_inside c.args.forms.now c.args.heap.now.objects c.args.names.now c.args.names.now c.loop-place.place c.in-Some.name c.requires.walked.1.inside (sym c.in-Some.ensures)

pub node_of-requires-clause-met : goal.node_of-requires-clause-met
node_of-requires-clause-met c =
    next_met c.args.forms.now c.args.heap.now.objects c.args.names.now c.requires.walked.0 c.requires.walked.1 c.loop-place.place c.in-Some.name (sym c.in-Some.ensures)

pub loop-place-preserved : goal.loop-place-preserved
loop-place-preserved c =
    one_drawn c.args.forms.now c.args.heap.now.objects c.args.names.now c.loop-place.place c.in-Some.name _ _ _ c.loop-place.invariant (sym c.in-Some.ensures) c.in_ok-node_of.ensures c.in_ok-push.ensures.ok

pub returns : goal.returns
returns c =
    let all : c.loop-place.place ≡ length c.args.names.now = search rules in
    all_drawn c.args.forms.now c.args.heap.now.objects c.args.names.now c.loop-place.place _ c.loop-place.invariant all
