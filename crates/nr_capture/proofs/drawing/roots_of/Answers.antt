use Rattle.nr_capture.proofs.Nodes.{root_met_at, roots_more, roots_start, roots_whole}
use Rattle.nr_capture.proofs.drawing.roots_of.Goals as goal

pub root_of-requires : goal.root_of-requires
root_of-requires c = root_met_at c.args.names.now c.args.roots.now c.loop-root.root-index _ c.loop-root-test.true c.requires

pub loop-root-preserved : goal.loop-root-preserved
loop-root-preserved c =
    roots_more c.args.names.now c.args.roots.now _ _ c.loop-root.root-index _ _ c.loop-root-test.true c.loop-root.invariant c.root_of.ensures c.in_ok-push.ensures.ok

pub returns : goal.returns
returns c = roots_whole c.args.names.now c.args.roots.now _ c.loop-root.root-index c.loop-root-test.false c.loop-root.invariant

pub loop-root-init : goal.loop-root-init
loop-root-init c = roots_start c.args.names.now c.new-found.result c.new-found.ensures
