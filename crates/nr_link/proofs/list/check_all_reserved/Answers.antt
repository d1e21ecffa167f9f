use Rattle.std.proofs.lemmas.Result.{err_from_is_err_and}
use Rattle.nr_linkrules.specs.ClassRules.{reserved_fault}
use Rattle.nr_link.proofs.Walks.{fails_at_of}
use Rattle.nr_link.proofs.list.check_all_reserved.Goals as goal

pub returns-in_err-check_reserved : goal.returns-in_err-check_reserved
returns-in_err-check_reserved c =
    let p = err_from_is_err_and c.from_residual.result c.from_residual.ensures.1 in
    rw (p.1, p.2) (fails_at_of reserved_fault _ c.args.classes.now c.loaded-item.result _ _ c.loop-loaded-test.true c.loaded-item.is c.in_err-check_reserved.ensures c.loop-loaded.invariant)
