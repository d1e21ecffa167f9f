use Rattle.std.proofs.lemmas.Result.{err_from_is_err_and}
use Rattle.std.specs.Vec.Iter.{into_iter_items, into_iter_len}
use Rattle.nr_instrs.specs.Checks.{also, settled}
use Rattle.nr_instrs.proofs.Walks.{fails_at, is_past}
use Rattle.nr_instrs.proofs.target.settle_instrs.Goals as goal

pub returns-in_err-instr_onto : goal.returns-in_err-instr_onto
returns-in_err-instr_onto c =
    let p = err_from_is_err_and c.from_residual.result c.from_residual.ensures.1 in
    rw (p.1, p.2) (fails_at (also (settled c.args.starts.now)) c.loop-instr.instrs c.in-Some.instr (into_iter_items c.loop-instr.rest) (into_iter_items c.next.new.self) _ _
    c.in-Some.ensures.cases.0 c.in_err-instr_onto.ensures c.loop-instr.invariant.so_far)

pub returns : goal.returns
returns c = is_past (also (settled c.args.starts.now)) c.loop-instr.instrs (into_iter_items c.loop-instr.rest) (into_iter_len c.loop-instr.rest) _
    c.loop-instr.invariant.len c.in_default.ensures.cases.0 c.loop-instr.invariant.so_far
