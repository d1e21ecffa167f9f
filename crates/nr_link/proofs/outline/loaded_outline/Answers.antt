use Rattle.std.proofs.Common.{ap, length, arith}
use Rattle.std.specs.Vec.Iter.{into_iter_items, into_iter_len}
use Rattle.nr_names.specs.Numbers.{texts}
use Rattle.nr_link.proofs.Outlines.{all_classes, all_methods, goes_on}
use Rattle.nr_link.proofs.outline.loaded_outline.Goals as goal

pub loop-loaded-preserved : goal.loop-loaded-preserved
loop-loaded-preserved c = record {
  so_far = goes_on (texts c.args.names.now) c.args.classes c.loop-loaded.tables.classes c.loop-loaded.tables.methods c.in-Some.loaded
      (into_iter_items c.loop-loaded.rest) (into_iter_items c.next.new.self) c.in-Some.ensures.items c.loop-loaded.invariant.so_far
      c.add_class.new.tables.classes c.add_class.new.tables.methods c.in_ok-add_class.ensures.classes c.in_ok-add_class.ensures.methods c.in_ok-add_class.ensures.few;
  len = omega (arith, ap length c.in-Some.ensures.items, c.in-Some.ensures.len, c.loop-loaded.invariant.len);
}

pub returns-clause-classes : goal.returns-clause-classes
returns-clause-classes c =
    all_classes (texts c.args.names.now) c.args.classes c.loop-loaded.tables.classes c.loop-loaded.tables.methods (into_iter_items c.loop-loaded.rest)
    (into_iter_len c.loop-loaded.rest) c.loop-loaded.invariant.len c.in_default.ensures.cases.0 c.loop-loaded.invariant.so_far

pub returns-clause-methods : goal.returns-clause-methods
returns-clause-methods c =
    all_methods (texts c.args.names.now) c.args.classes c.loop-loaded.tables.classes c.loop-loaded.tables.methods (into_iter_items c.loop-loaded.rest)
    (into_iter_len c.loop-loaded.rest) c.loop-loaded.invariant.len c.in_default.ensures.cases.0 c.loop-loaded.invariant.so_far
