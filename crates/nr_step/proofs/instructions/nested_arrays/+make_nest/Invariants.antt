use Rattle.std.proofs.Common.{length}
use Rattle.nr_step.specs.NestedArrays.{counts_in}
use Rattle.nr_step.proofs.NestedArrays.{Filling}
use Rattle.nr_step.proofs.instructions.nested_arrays.+make_nest.Given as goal

abbrev pub decreases-make_nest : goal.decreases-make_nest
decreases-make_nest l = length l.counts.now

abbrev pub invariant-loop-left : goal.invariant-loop-left
invariant-loop-left l = Filling l.fn.heap l.initial.heap l.heap l.elem (counts_in l.inner) l.name l.len l.left

abbrev pub decreases-loop-left : goal.decreases-loop-left
decreases-loop-left l = l.left
