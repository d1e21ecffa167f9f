use Rattle.std.proofs.Common.{◌≡◌, ◌<◌, ◌^◌, [], length}
use Rattle.nr_base.specs.Reader.{onto, to_end}
use Rattle.nr_instrs.specs.InstrReading.{instr_at}
use Rattle.nr_instrs.proofs.instruction.read_instrs.Given as goal

abbrev pub invariant-loop-alloc : goal.invariant-loop-alloc
invariant-loop-alloc l = record {
  so_far : to_end (onto (instr_at l.class.pool)) l.instrs l.cur ≡ to_end (onto (instr_at l.class.pool)) [] l.fn.cur;
  total : l.cur.total < 2 ^ 16;
}

abbrev pub decreases-loop-alloc : goal.decreases-loop-alloc
decreases-loop-alloc l = length l.cur.rest
