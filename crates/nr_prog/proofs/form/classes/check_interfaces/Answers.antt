use Rattle.std.proofs.lemmas.Result.{err_from_is_err_and}
use Rattle.nr_prog.specs.Rules.{class_fault}
use Rattle.nr_prog.proofs.Walks.{fails_in}
use Rattle.nr_prog.proofs.form.classes.check_interfaces.Goals as goal

pub returns-in_err-check_class : goal.returns-in_err-check_class
returns-in_err-check_class c = let p = err_from_is_err_and c.from_residual.result c.from_residual.ensures.1 in rw (p.1, p.2) (fails_in (λ place. class_fault c.args.pool.now) _ _ c.args.interfaces.now 0 _ _ c.loop-interface-test.true c.in_err-check_class.ensures c.loop-interface.invariant)
