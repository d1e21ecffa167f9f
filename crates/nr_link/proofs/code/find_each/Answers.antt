use Rattle.std.proofs.lemmas.Result.{err_from_is_err_and}
use Rattle.nr_linkrules.specs.SiteRules.{instr_found, place_in}
use Rattle.nr_link.specs.Coded.{found_in, site_fault}
use Rattle.nr_link.proofs.SiteFaults.{fault_is, found_is, goes_at_of, no_fault, pushes}
use Rattle.nr_link.proofs.Walks.{fails_at_of}
use Rattle.nr_link.proofs.code.find_each.Goals as goal

pub returns-in_err-find-clause-fault : goal.returns-in_err-find-clause-fault
returns-in_err-find-clause-fault c =
    let p = err_from_is_err_and c.from_residual.result c.from_residual.ensures.1 in
    rw (p.1, p.2) (fails_at_of (site_fault c.args.tables.now c.args.info.now c.args.class.now.pool) _ c.args.instrs.now c.instr-item.result _ _ c.loop-instr-test.true c.instr-item.is
    (fault_is _ (instr_found c.args.tables.now (place_in c.args.tables.now c.args.info.now) c.args.class.now.pool c.instr-item.result) c.in_err-find.ensures) c.loop-instr.invariant.fault)

pub loop-instr-preserved : goal.loop-instr-preserved
loop-instr-preserved c =
    let found = instr_found c.args.tables.now (place_in c.args.tables.now c.args.info.now) c.args.class.now.pool c.instr-item.result in
    record {
      fault = goes_at_of (site_fault c.args.tables.now c.args.info.now c.args.class.now.pool) _ c.args.instrs.now c.instr-item.result _ c.loop-instr-test.true c.instr-item.is (no_fault found c.in_ok-find.field-0 c.in_ok-find.ensures) c.loop-instr.invariant.fault;
      found = pushes (found_in c.args.tables.now c.args.info.now c.args.class.now.pool) _ c.args.instrs.now c.instr-item.result _ _ c.in_ok-find.field-0 _ c.loop-instr-test.true c.instr-item.is (found_is found c.in_ok-find.field-0 c.in_ok-find.ensures) c.in_ok-push.ensures.ok c.loop-instr.invariant.found;
    }
