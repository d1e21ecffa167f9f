use Rattle.std.proofs.Common.{◌≡◌, ◌++◌, drop, map}
use Rattle.nr_linked.specs.BuiltIns.{built_in_class}
use Rattle.nr_link.proofs.names.push_built_in_names.Given as goal

abbrev pub invariant-loop-class : goal.invariant-loop-class
invariant-loop-class l =
    l.names ++ map (λ b. (built_in_class b).name) (drop l.class-index l.classes) ≡ l.initial.names ++ map (λ b. (built_in_class b).name) l.classes
