use Rattle.std.proofs.Common.{ap, length, arith}
use Rattle.std.specs.Vec.Iter.{into_iter_items}
use Rattle.std.proofs.lemmas.Result.{err_from_is_err_and}
use Rattle.nr_linkrules.specs.Completion.{resolved_in}
use Rattle.nr_linkrules.specs.SiteRules.{around_fault}
use Rattle.nr_link.specs.Completing.{found_for}
use Rattle.nr_link.proofs.Finishing.{tails}
use Rattle.nr_link.proofs.SiteFaults.{goes_at_of, pushes}
use Rattle.nr_link.proofs.Walks.{ends_of, fails_at_of}
use Rattle.nr_link.proofs.completion.found_for_all.Goals as goal

pub returns-in_err-found_for-clause-fault : goal.returns-in_err-found_for-clause-fault
returns-in_err-found_for-clause-fault c =
    let p = err_from_is_err_and c.from_residual.result c.from_residual.ensures.1 in
    rw (p.1, p.2) (fails_at_of (around_fault c.args.tables.now) _ c.args.methods.now c.info-item.result _ _ c.loop-info-test.true c.info-item.is c.in_err-found_for.ensures.fault c.loop-info.invariant.fault)

pub loop-info-preserved : goal.loop-info-preserved
loop-info-preserved c = record {
  fault = goes_at_of (around_fault c.args.tables.now) _ c.args.methods.now c.info-item.result _ c.loop-info-test.true c.info-item.is c.in_ok-found_for.ensures.fault c.loop-info.invariant.fault;
  found = pushes (found_for c.args.tables.now) _ c.args.methods.now c.info-item.result _ _ c.in_ok-found_for.field-0 _ c.loop-info-test.true c.info-item.is c.in_ok-found_for.ensures.found c.in_ok-push.ensures.ok c.loop-info.invariant.found;
  rest = tails (resolved_in c.args.tables.now) _ c.args.methods.now c.info-item.result c.in-Some.resolved (into_iter_items c.loop-info.rest) (into_iter_items c.next.new.self) c.loop-info-test.true c.in-Some.ensures.items c.loop-info.invariant.rest;
  len = omega (arith, ap length c.in-Some.ensures.items, c.in-Some.ensures.len, c.loop-info.invariant.len);
}

pub returns-clause-fault : goal.returns-clause-fault
returns-clause-fault c = ends_of (around_fault c.args.tables.now) _ c.args.methods.now _ c.loop-info-test.false c.loop-info.invariant.fault
