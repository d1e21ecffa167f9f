use Rattle.std.proofs.Common.{arith, ap, ◌∙◌, length}
use Rattle.nr_verify_ops.specs.InPlace.{one_initialised}
use Rattle.nr_verify_ops.proofs.InPlace.{changed_length, changed_more, all_initialised}
use Rattle.nr_verify_ops.proofs.uninit.initialise.Goals as goal

pub loop-u-preserved : goal.loop-u-preserved
loop-u-preserved c = changed_more (one_initialised c.args.t c.args.«class») c.loop-u.u-index c.args.types.now c.loop-u.types _ c.one_initialised.result
    (let same = ap length c.loop-u.invariant ∙ changed_length (one_initialised c.args.t c.args.«class») c.loop-u.u-index c.args.types.now in omega arith)
    c.loop-u.invariant c.one_initialised.ensures

pub returns : goal.returns
returns c = c.loop-u.invariant ∙ all_initialised c.args.t c.args.«class» c.loop-u.u-index c.args.types.now (omega arith)
