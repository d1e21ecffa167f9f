use Rattle.std.proofs.Common.{◌≡◌, take}
use Rattle.std.specs.Prelude.{IsSomeAnd}
use Rattle.std.specs.FinMap.{get}
use Rattle.nr_heap.specs.Contents.{with_run}
use Rattle.nr_heap.proofs.heap.Heap.write_run.Given as goal

abbrev pub invariant-loop-i : goal.invariant-loop-i
invariant-loop-i l = IsSomeAnd (get l.initial.self.objects l.r)
    (λ o. l.self ≡ record l.initial.self { objects = with_run l.initial.self.objects l.r o l.start (take l.i l.values) })
