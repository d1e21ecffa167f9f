use Rattle.std.proofs.Common.{◌≡◌, ◌+◌, drop}
use Rattle.nr_heap.specs.Arenas.{cells_at}
use Rattle.nr_heap.proofs.heap.mark.cells_of.Given as goal

abbrev pub invariant-loop-place : goal.invariant-loop-place
invariant-loop-place l = l.cells + cells_at (drop l.place-index l.places) ≡ cells_at l.places
