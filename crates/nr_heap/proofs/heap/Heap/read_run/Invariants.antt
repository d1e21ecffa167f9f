use Rattle.std.proofs.Common.{◌≡◌, take, drop}
use Rattle.std.specs.Prelude.{IsSomeAnd}
use Rattle.std.specs.FinMap.{get}
use Rattle.nr_heap.proofs.heap.Heap.read_run.Given as goal

abbrev pub invariant-loop-i : goal.invariant-loop-i
invariant-loop-i l = IsSomeAnd (get l.fn.self.objects l.r) (λ o. take l.i l.out ≡ take l.i (drop l.start o.slots))
