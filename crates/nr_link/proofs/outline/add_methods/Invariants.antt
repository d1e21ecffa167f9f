use Rattle.std.proofs.Common.{◌≡◌, ◌++◌, drop, length, map}
use Rattle.std.specs.List.{zip}
use Rattle.std.specs.Vec.Iter.{into_iter_items, into_iter_len}
use Rattle.nr_linkrules.specs.Outline.{outline_method}
use Rattle.nr_link.proofs.outline.add_methods.Given as goal

abbrev pub invariant-loop-method : goal.invariant-loop-method
invariant-loop-method l = record {
  so_far : l.methods ++ map (outline_method l.place l.class.pool) (zip (drop l.method-index l.declared) (into_iter_items l.rest))
      ≡ l.initial.methods ++ map (outline_method l.place l.class.pool) (zip l.declared l.fn.bodies);
  len : length (into_iter_items l.rest) ≡ into_iter_len l.rest;
}
