use Rattle.std.proofs.Common.{◌≡◌, ◌++◌, length, map}
use Rattle.std.specs.List.{zip}
use Rattle.std.specs.Vec.Iter.{into_iter_items, into_iter_len}
use Rattle.nr_link.specs.Laid.{laid_by}
use Rattle.nr_link.proofs.layout.lay_entries.Given as goal

abbrev pub invariant-loop-info : goal.invariant-loop-info
invariant-loop-info l = record {
  so_far : l.laid ++ map (λ p. laid_by p.0 p.1) (zip (into_iter_items l.rest) (into_iter_items l.parts)) ≡ map (λ p. laid_by p.0 p.1) (zip l.fn.classes l.fn.parts);
  len : length (into_iter_items l.rest) ≡ into_iter_len l.rest;
  parts_len : length (into_iter_items l.parts) ≡ into_iter_len l.parts;
}

abbrev pub decreases-loop-info : goal.decreases-loop-info
decreases-loop-info l = length (into_iter_items l.rest)
