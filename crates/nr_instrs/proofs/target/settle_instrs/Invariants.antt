use Rattle.std.proofs.Common.{◌≡◌, [], length}
use Rattle.std.specs.Vec.Iter.{into_iter_items, into_iter_len}
use Rattle.nr_instrs.specs.Checks.{also, settled, walk}
use Rattle.nr_instrs.proofs.target.settle_instrs.Given as goal

abbrev pub invariant-loop-instr : goal.invariant-loop-instr
invariant-loop-instr l = record {
  so_far : walk (also (settled l.starts)) l.instrs (into_iter_items l.rest) ≡ walk (also (settled l.starts)) [] l.fn.raws;
  len : length (into_iter_items l.rest) ≡ into_iter_len l.rest;
}

abbrev pub decreases-loop-instr : goal.decreases-loop-instr
decreases-loop-instr l = length (into_iter_items l.rest)
