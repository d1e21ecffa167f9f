use Rattle.std.proofs.Common.{sym, arith}
use Rattle.nr_heap.proofs.Views.{cells_are}
use Rattle.nr_heap.proofs.heap.Heap.cells.Goals as goal

pub returns-clause-cells : goal.returns-clause-cells
returns-clause-cells c = sym (cells_are c.self.inside c.args.self.now c.self.view_is c.self.invariant)

pub returns-clause-few : goal.returns-clause-few
returns-clause-few c = omega (arith, cells_are c.self.inside c.args.self.now c.self.view_is c.self.invariant, c.self.invariant.few)
