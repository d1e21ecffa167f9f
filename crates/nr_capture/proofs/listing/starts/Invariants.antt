use Rattle.std.proofs.Common.{◌≡◌, reverse}
use Rattle.nr_capture.specs.Listed.{starts}
use Rattle.nr_capture.proofs.listing.starts.Given as goal

abbrev pub invariant-loop-root : goal.invariant-loop-root
invariant-loop-root l = l.starts.items ≡ reverse (starts l.program l.graph (reverse l.yielded))
