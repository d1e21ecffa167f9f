use Rattle.std.proofs.Common.{◌≡◌, length}
use Rattle.std.specs.Vec.Iter.{into_iter_items, into_iter_len}
use Rattle.nr_names.specs.Numbers.{texts}
use Rattle.nr_link.proofs.Outlines.{Outlining}
use Rattle.nr_link.proofs.outline.loaded_outline.Given as goal

abbrev pub invariant-loop-loaded : goal.invariant-loop-loaded
invariant-loop-loaded l = record {
  so_far : Outlining (texts l.names) l.fn.classes l.tables.classes l.tables.methods (into_iter_items l.rest);
  len : length (into_iter_items l.rest) ≡ into_iter_len l.rest;
}

abbrev pub decreases-loop-loaded : goal.decreases-loop-loaded
decreases-loop-loaded l = length (into_iter_items l.rest)
