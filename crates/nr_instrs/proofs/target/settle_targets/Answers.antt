use Rattle.std.proofs.Common.{pos}
use Rattle.std.proofs.lemmas.Result.{err_from_is_err_and}
use Rattle.nr_instrs.specs.Checks.{also, settled_target, settled_targets}
use Rattle.nr_instrs.proofs.Walks.{fails_in}
use Rattle.nr_instrs.proofs.target.settle_targets.Goals as goal

pub returns-in_err-target_onto : goal.returns-in_err-target_onto
unfolding settled_targets
returns-in_err-target_onto c =
    let p = err_from_is_err_and c.from_residual.result c.from_residual.ensures.1 in
    rw (p.1, p.2) (fails_in (also (settled_target c.args.starts.now c.args.at)) c.loop-to.to-index c.loop-to.targets c.args.all.now (pos 0) _ _
    c.loop-to-test.true c.in_err-target_onto.ensures c.loop-to.invariant)
