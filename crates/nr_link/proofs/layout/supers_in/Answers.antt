use Rattle.nr_linkrules.specs.Reaches.{reaches}
use Rattle.nr_link.proofs.Loops.{keeps}
use Rattle.nr_link.proofs.layout.supers_in.Goals as goal

pub loop-above-preserved : goal.loop-above-preserved
loop-above-preserved c =
    keeps (reaches c.args.tables.now c.args.class) c.loop-above.above _ c.loop-above.supers c.push_if.new.items _ c.reaches.result
    c.loop-above-test.true c.reaches.ensures c.in_ok-push_if.ensures c.loop-above.invariant
