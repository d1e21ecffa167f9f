use Rattle.std.proofs.lemmas.Result.{err_from_is_err_and}
use Rattle.nr_linkrules.specs.SiteRules.{handler_fault}
use Rattle.nr_link.proofs.Walks.{fails_in_of}
use Rattle.nr_link.proofs.around.catches_of.Goals as goal

pub returns-in_err-caught-clause-fault : goal.returns-in_err-caught-clause-fault
returns-in_err-caught-clause-fault c =
    let p = err_from_is_err_and c.from_residual.result c.from_residual.ensures.1 in
    rw (p.1, p.2) (fails_in_of (handler_fault c.args.tables.now c.args.class.now.pool) _ c.args.handlers.now _ _ _ c.loop-handler-test.true c.in_err-caught.ensures.fault c.loop-handler.invariant.passed)
