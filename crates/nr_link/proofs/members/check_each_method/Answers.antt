use Rattle.std.proofs.lemmas.Result.{err_from_is_err_and}
use Rattle.nr_prog.specs.declared.member.Method.{Method}
use Rattle.nr_linkrules.specs.ClassRules.{method_fault}
use Rattle.nr_link.proofs.Walks.{fails_at_of}
use Rattle.nr_link.proofs.members.check_each_method.Goals as goal

pub returns-in_err-check_method : goal.returns-in_err-check_method
returns-in_err-check_method c =
    let p = err_from_is_err_and c.from_residual.result c.from_residual.ensures.1 in
    rw (p.1, p.2) (fails_at_of (λ (f : Method). method_fault c.args.tables.now c.args.class.now.pool f.desc) _ c.args.methods.now c.method-item.result _ _ c.loop-method-test.true c.method-item.is c.in_err-check_method.ensures c.loop-method.invariant)
