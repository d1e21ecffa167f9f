use Rattle.nr_graph.proofs.Tested.{roots_below}
use Rattle.nr_graph.proofs.tests.order.are_roots.Goals as goal

pub loop-root-preserved : goal.loop-root-preserved
loop-root-preserved c =
    roots_below c.args.count c.args.roots.now c.loop-root.root-index _ c.loop-root-test.true c.loop-root.invariant (c.is_root.ensures c.if-not-is_root.false)
