use Rattle.std.proofs.Common.{◌-◌, ◌^◌}
use Rattle.nr_capture.proofs.Rooms.{cells_all, cells_more}
use Rattle.nr_capture.proofs.room.cells_of.Goals as goal

pub loop-node-preserved : goal.loop-node-preserved
loop-node-preserved c =
    cells_more c.as_slice-nodes.result.now c.loop-node.node-index c.loop-node.cells c.saturating_add.result c.saturating_add-cells.result c.node-item.result c.len-slots.result (2 ^ 64 - 1) c.loop-node-test.true c.node-item.is
    c.loop-node.invariant c.len-slots.ensures c.saturating_add.ensures c.saturating_add-cells.ensures

pub returns : goal.returns
returns c = cells_all c.as_slice-nodes.result.now c.args.graph.now.nodes c.loop-node.node-index c.loop-node.cells (2 ^ 64 - 1) c.as_slice-nodes.ensures c.loop-node-test.false c.loop-node.invariant
