use Rattle.std.proofs.lemmas.Result.{err_from_is_err_and}
use Rattle.nr_linkrules.specs.SiteRules.{map_fault, type_fault}
use Rattle.nr_link.proofs.Parts.{fails_back, fails_front}
use Rattle.nr_link.proofs.frames.frame_of.Goals as goal

pub returns-in_err-types-clause-fault : goal.returns-in_err-types-clause-fault
unfolding map_fault
returns-in_err-types-clause-fault c =
    let p = err_from_is_err_and c.from_residual.result c.from_residual.ensures.1 in
    rw (p.1, p.2) (fails_front (type_fault c.args.tables.now) _ c.args.frame.now.locals c.args.frame.now.stack c.as_slice.result.now c.as_slice.ensures c.in_err-types.ensures.fault)

pub returns-in_err-stack-clause-fault : goal.returns-in_err-stack-clause-fault
unfolding map_fault
returns-in_err-stack-clause-fault c =
    let p = err_from_is_err_and c.from_residual-in_err-stack.result c.from_residual-in_err-stack.ensures.1 in
    rw (p.1, p.2) (fails_back (type_fault c.args.tables.now) _ c.args.frame.now.locals c.args.frame.now.stack c.as_slice.result.now c.as_slice-2.result.now c.as_slice.ensures c.in_ok-types.ensures.fault c.as_slice-2.ensures c.in_err-stack.ensures.fault)
