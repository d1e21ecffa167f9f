use Rattle.std.proofs.Common.{rules}
use Rattle.nr_capture.proofs.Nodes.{node_drawn, values_met}
use Rattle.nr_capture.proofs.drawing.node_of.Goals as goal

pub slots_of-requires : goal.slots_of-requires
slots_of-requires c =
    values_met c.args.forms.now c.args.heap.now.objects c.args.name c.args.names.now c.in_ok-values.values.items c.as_slice.result.now c.in_ok-values.ensures c.as_slice.ensures.value c.requires.met

pub returns : goal.returns
returns c =
    node_drawn c.args.forms.now c.args.heap.now.objects c.args.name c.args.names.now c.in_ok-values.values.items c.as_slice.result.now _ c.kind_of-kind.ensures c.in_ok-values.ensures c.as_slice.ensures.value
    c.in_ok-slots.ensures.draws c.in_ok-slots.ensures.bits (search rules)
