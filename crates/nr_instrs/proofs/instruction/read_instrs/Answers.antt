use Rattle.std.proofs.Common.{[]}
use Rattle.std.proofs.lemmas.Result.{err_from_is_err_and}
use Rattle.nr_base.specs.Reader.{onto, to_end}
use Rattle.nr_instrs.specs.InstrReading.{instr_at}
use Rattle.nr_instrs.proofs.Loops.{fails}
use Rattle.nr_instrs.proofs.instruction.read_instrs.Goals as goal

pub returns-in_err-instr_onto : goal.returns-in_err-instr_onto
returns-in_err-instr_onto c =
    let p = err_from_is_err_and c.from_residual.result c.from_residual.ensures.1 in
    rw (p.1, p.2) (fails c.args.class.now.pool c.loop-alloc.instrs c.loop-alloc.cur _ (to_end (onto (instr_at c.args.class.now.pool)) [] c.args.cur.now)
    (λ z. let t = c.is_empty.ensures.1 z in absurd cc) c.in_err-instr_onto.ensures c.loop-alloc.invariant.so_far)
