use Rattle.std.proofs.Common.{◌≡◌, ◌++◌, reverse}
use Rattle.nr_graph.specs.Pictures.{names_in}
use Rattle.nr_capture.proofs.walk.push_names.Given as goal

abbrev pub invariant-loop-value : goal.invariant-loop-value
invariant-loop-value l = l.stack.items ≡ l.initial.stack.items ++ reverse (names_in (reverse l.yielded))
