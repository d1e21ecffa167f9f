use Rattle.std.proofs.lemmas.Result.{err_from_is_err_and}
use Rattle.nr_linkrules.specs.Completion.{resolved_in}
use Rattle.nr_linkrules.specs.SiteRules.{code_fault}
use Rattle.nr_link.proofs.SiteFaults.{goes_at_of, pushes}
use Rattle.nr_link.proofs.Walks.{fails_at_of}
use Rattle.nr_link.proofs.code.find_in_methods.Goals as goal

pub returns-in_err-find_in_method-clause-fault : goal.returns-in_err-find_in_method-clause-fault
returns-in_err-find_in_method-clause-fault c =
    let p = err_from_is_err_and c.from_residual.result c.from_residual.ensures.1 in
    rw (p.1, p.2) (fails_at_of (code_fault c.args.tables.now) _ c.args.methods.now c.info-item.result _ _ c.loop-info-test.true c.info-item.is c.in_err-find_in_method.ensures.fault c.loop-info.invariant.fault)

pub loop-info-preserved : goal.loop-info-preserved
loop-info-preserved c = record {
  fault = goes_at_of (code_fault c.args.tables.now) _ c.args.methods.now c.info-item.result _ c.loop-info-test.true c.info-item.is c.in_ok-find_in_method.ensures.fault c.loop-info.invariant.fault;
  found = pushes (resolved_in c.args.tables.now) _ c.args.methods.now c.info-item.result _ _ c.in_ok-find_in_method.field-0 _ c.loop-info-test.true c.info-item.is c.in_ok-find_in_method.ensures.found c.in_ok-push.ensures.ok c.loop-info.invariant.found;
}
