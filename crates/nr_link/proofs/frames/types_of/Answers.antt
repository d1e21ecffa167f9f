use Rattle.std.proofs.lemmas.Result.{err_from_is_err_and}
use Rattle.nr_linkrules.specs.SiteRules.{type_fault}
use Rattle.nr_link.proofs.Walks.{fails_at_of}
use Rattle.nr_link.proofs.frames.types_of.Goals as goal

pub returns-in_err-type_of-clause-fault : goal.returns-in_err-type_of-clause-fault
returns-in_err-type_of-clause-fault c =
    let p = err_from_is_err_and c.from_residual.result c.from_residual.ensures.1 in
    rw (p.1, p.2) (fails_at_of (type_fault c.args.tables.now) _ c.args.types.now c.map_type-item.result _ _ c.loop-map_type-test.true c.map_type-item.is c.in_err-type_of.ensures.fault c.loop-map_type.invariant.passed)
