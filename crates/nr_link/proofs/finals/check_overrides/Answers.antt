use Rattle.std.proofs.lemmas.Result.{err_from_is_err_and}
use Rattle.nr_linkrules.specs.ClassRules.{override_fault}
use Rattle.nr_link.proofs.Walks.{fails_up}
use Rattle.nr_link.proofs.finals.check_overrides.Goals as goal

pub returns-in_err-check_override : goal.returns-in_err-check_override
returns-in_err-check_override c =
    let p = err_from_is_err_and c.from_residual.result c.from_residual.ensures.1 in
    rw (p.1, p.2) (fails_up (override_fault c.args.tables.now c.args.name.now) _ _ _ _ c.loop-method-test.true c.in_err-check_override.ensures c.loop-method.invariant)
