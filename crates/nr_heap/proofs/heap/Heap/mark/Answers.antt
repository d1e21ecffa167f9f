use Rattle.std.proofs.Common.{◌∙◌, ap, arith}
use Rattle.std.specs.List.{range_with_len}
use Rattle.nr_heap.proofs.Cuts.{names_are}
use Rattle.nr_heap.proofs.Views.{few_places}
use Rattle.nr_heap.proofs.heap.Heap.mark.Goals as goal

pub overflow_cast-result : goal.overflow_cast-result
overflow_cast-result c = record { fits = omega (arith, few_places c.self.inside c.args.self.now c.self.view_is c.self.invariant, c.len.ensures, c.self.inside.places.ok.0) }

pub returns : goal.returns
returns c = ap (range_with_len 0) (omega (arith, c.len.ensures, c.self.inside.places.ok.0)) ∙ names_are c.self.inside c.args.self.now c.self.view_is c.self.invariant
