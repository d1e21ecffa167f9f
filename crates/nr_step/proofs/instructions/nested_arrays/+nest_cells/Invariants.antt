use Rattle.std.proofs.Common.{length}
use Rattle.nr_step.proofs.instructions.nested_arrays.+nest_cells.Given as goal

abbrev pub decreases-nest_cells : goal.decreases-nest_cells
decreases-nest_cells l = length l.counts.now
