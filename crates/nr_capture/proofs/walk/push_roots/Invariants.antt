use Rattle.std.proofs.Common.{◌≡◌, ◌++◌, reverse}
use Rattle.nr_graph.specs.Pictures.{names_in}
use Rattle.nr_capture.specs.Roots.{root_values}
use Rattle.nr_capture.proofs.walk.push_roots.Given as goal

abbrev pub invariant-loop-root : goal.invariant-loop-root
invariant-loop-root l = l.stack.items ≡ l.initial.stack.items ++ reverse (names_in (root_values (reverse l.yielded)))
