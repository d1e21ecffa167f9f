use Rattle.std.proofs.Common.{sym, subst, ◌∙◌}
use Rattle.std.proofs.lemmas.Result.{err_from_is_err_and}
use Rattle.nr_linkrules.specs.Faults.{Fails}
use Rattle.nr_link.proofs.Finishing.{faults_by, finishes, loaded_by}
use Rattle.nr_link.proofs.linking.finish.Goals as goal

pub returns-in_err-found-clause-fault : goal.returns-in_err-found-clause-fault
returns-in_err-found-clause-fault c =
    let p = err_from_is_err_and c.from_residual.result c.from_residual.ensures.1 in
    let loaded = loaded_by c.args.tables c.saturating_sub-count.result c.len.result c.as_slice.result.now c.saturating_sub-count.ensures c.len.ensures c.as_slice.ensures in
    rw (p.1, p.2) (subst (Fails c.in_err-found.field-0.0) (faults_by c.args.tables c.requires.later _ loaded) c.in_err-found.ensures.fault)

pub returns-clause-fault : goal.returns-clause-fault
returns-clause-fault c =
    let loaded = loaded_by c.args.tables c.saturating_sub-count.result c.len.result c.as_slice.result.now c.saturating_sub-count.ensures c.len.ensures c.as_slice.ensures in
    sym (faults_by c.args.tables c.requires.later _ loaded) ∙ c.in_ok-found.ensures.fault

pub returns-clause-tables : goal.returns-clause-tables
returns-clause-tables c =
    let loaded = loaded_by c.args.tables c.saturating_sub-count.result c.len.result c.as_slice.result.now c.saturating_sub-count.ensures c.len.ensures c.as_slice.ensures in
    finishes c.args.tables _ c.in_ok-complete.field-0 c.in_ok-found.found loaded c.in_ok-found.ensures.found c.in_ok-complete.ensures.methods
