use Rattle.std.proofs.lemmas.Result.{err_from_is_err_and}
use Rattle.nr_linkrules.specs.ClassRules.{desc_fault}
use Rattle.nr_link.proofs.Walks.{fails_at_of}
use Rattle.nr_link.proofs.known.check_descs.Goals as goal

pub returns-in_err-check_desc : goal.returns-in_err-check_desc
returns-in_err-check_desc c =
    let p = err_from_is_err_and c.from_residual.result c.from_residual.ensures.1 in
    rw (p.1, p.2) (fails_at_of (desc_fault c.args.tables.now) _ c.args.descs.now c.desc-item.result _ _ c.loop-desc-test.true c.desc-item.is c.in_err-check_desc.ensures c.loop-desc.invariant)
