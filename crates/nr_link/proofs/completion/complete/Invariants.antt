use Rattle.std.proofs.Common.{◌≡◌, ◌++◌, drop, length, map}
use Rattle.std.specs.List.{zip}
use Rattle.std.specs.Vec.Iter.{into_iter_items, into_iter_len}
use Rattle.nr_linked.specs.declared.program.tables.MethodInfo.{MethodInfo}
use Rattle.nr_link.specs.declared.completion.Found.{Found}
use Rattle.nr_link.specs.Completing.{completed_by}
use Rattle.nr_link.proofs.completion.complete.Given as goal

abbrev pub invariant-loop-info : goal.invariant-loop-info
invariant-loop-info l = record {
  so_far : l.completed ++ (map (λ (p : MethodInfo × Found). completed_by p.0 p.1) (zip (into_iter_items l.rest) (into_iter_items l.found)) ++ drop (length (into_iter_items l.found)) (into_iter_items l.rest))
      ≡ map (λ (p : MethodInfo × Found). completed_by p.0 p.1) (zip l.fn.methods l.fn.found) ++ drop (length l.fn.found) l.fn.methods;
  len : length (into_iter_items l.rest) ≡ into_iter_len l.rest;
  found_len : length (into_iter_items l.found) ≡ into_iter_len l.found;
}

abbrev pub decreases-loop-info : goal.decreases-loop-info
decreases-loop-info l = length (into_iter_items l.rest)
