use Rattle.std.proofs.lemmas.Result.{err_from_is_err_and}
use Rattle.nr_linkrules.specs.ClassRules.{named_fault}
use Rattle.nr_link.proofs.Walks.{fails_in_of}
use Rattle.nr_link.proofs.above.check_interfaces.Goals as goal

pub returns-in_err-check_known : goal.returns-in_err-check_known
returns-in_err-check_known c =
    let p = err_from_is_err_and c.from_residual.result c.from_residual.ensures.1 in
    rw (p.1, p.2) (fails_in_of (named_fault c.args.tables.now c.args.class.now.pool) _ c.args.interfaces.now _ _ _ c.loop-index-test.true c.in_err-check_known.ensures c.loop-index.invariant)
