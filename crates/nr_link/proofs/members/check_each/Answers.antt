use Rattle.std.proofs.lemmas.Result.{err_from_is_err_and}
use Rattle.nr_linkrules.specs.ClassRules.{members_fault}
use Rattle.nr_linkrules.specs.LinkFaults.{on_loaded}
use Rattle.nr_link.proofs.Walks.{fails_at}
use Rattle.nr_link.proofs.members.check_each.Goals as goal

pub returns-in_err-check_entry : goal.returns-in_err-check_entry
returns-in_err-check_entry c =
    let p = err_from_is_err_and c.from_residual.result c.from_residual.ensures.1 in
    rw (p.1, p.2) (fails_at (on_loaded (members_fault c.args.tables.now)) _ _ c.args.classes.now c.index-classes-place.result _ _ c.loop-place-test.true c.index-classes-place.is c.in_err-check_entry.ensures c.loop-place.invariant)
