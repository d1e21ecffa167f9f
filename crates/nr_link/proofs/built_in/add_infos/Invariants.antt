use Rattle.std.proofs.Common.{◌≡◌, ◌++◌, drop, map}
use Rattle.nr_linked.specs.BuiltInTables.{built_in_info}
use Rattle.nr_link.proofs.built_in.add_infos.Given as goal

abbrev pub invariant-loop-class : goal.invariant-loop-class
invariant-loop-class l =
    l.infos ++ map (built_in_info l.first_class l.first_method) (drop l.class-index l.classes)
    ≡ l.initial.infos ++ map (built_in_info l.first_class l.first_method) l.classes
