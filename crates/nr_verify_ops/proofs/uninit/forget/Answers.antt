use Rattle.std.proofs.Common.{arith, ap, ◌∙◌, length}
use Rattle.nr_verify_ops.specs.InPlace.{one_forgotten}
use Rattle.nr_verify_ops.proofs.InPlace.{changed_length, changed_more, all_forgotten}
use Rattle.nr_verify_ops.proofs.uninit.forget.Goals as goal

pub loop-t-preserved : goal.loop-t-preserved
loop-t-preserved c = changed_more (one_forgotten c.args.at) c.loop-t.t-index c.args.types.now c.loop-t.types _ c.one_forgotten.result
    (let same = ap length c.loop-t.invariant ∙ changed_length (one_forgotten c.args.at) c.loop-t.t-index c.args.types.now in omega arith)
    c.loop-t.invariant c.one_forgotten.ensures

pub returns : goal.returns
returns c = c.loop-t.invariant ∙ all_forgotten c.args.at c.loop-t.t-index c.args.types.now (omega arith)
