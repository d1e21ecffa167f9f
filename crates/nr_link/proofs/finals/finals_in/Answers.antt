use Rattle.nr_link.specs.Finals.{is_open_final_at}
use Rattle.nr_link.proofs.Loops.{keeps}
use Rattle.nr_link.proofs.finals.finals_in.Goals as goal

pub loop-method-preserved : goal.loop-method-preserved
loop-method-preserved c =
    keeps (is_open_final_at c.args.tables.now) c.loop-method.method _ c.loop-method.finals c.push_if.new.items _ c.is_open_final_at.result
    c.loop-method-test.true c.is_open_final_at.ensures c.in_ok-push_if.ensures c.loop-method.invariant
