use Rattle.std.proofs.Common.{◌≡◌, ◌++◌, drop}
use Rattle.std.specs.List.{flat_map}
use Rattle.nr_link.specs.BuiltInEntries.{methods_in}
use Rattle.nr_link.proofs.built_in_methods.add_each.Given as goal

abbrev pub invariant-loop-class : goal.invariant-loop-class
invariant-loop-class l =
    l.methods ++ flat_map (methods_in l.first_class) (drop l.class-index l.classes)
    ≡ l.initial.methods ++ flat_map (methods_in l.first_class) l.classes
