use Rattle.std.proofs.Common.{◌≡◌, replicate}
use Rattle.nr_streamrows.specs.Ints.{zero}
use Rattle.nr_streamrows.proofs.tests.zeros.Given as goal

abbrev pub invariant-loop-slot : goal.invariant-loop-slot
invariant-loop-slot l = l.slots ≡ replicate l._slot zero
