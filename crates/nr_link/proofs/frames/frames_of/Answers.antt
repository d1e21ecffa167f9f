use Rattle.std.proofs.lemmas.Result.{err_from_is_err_and}
use Rattle.nr_linkrules.specs.SiteRules.{map_fault}
use Rattle.nr_link.proofs.Walks.{fails_at_of}
use Rattle.nr_link.proofs.frames.frames_of.Goals as goal

pub returns-in_err-frame_of-clause-fault : goal.returns-in_err-frame_of-clause-fault
returns-in_err-frame_of-clause-fault c =
    let p = err_from_is_err_and c.from_residual.result c.from_residual.ensures.1 in
    rw (p.1, p.2) (fails_at_of (map_fault c.args.tables.now) _ c.args.frames.now c.frame-item.result _ _ c.loop-frame-test.true c.frame-item.is c.in_err-frame_of.ensures.fault c.loop-frame.invariant.passed)
