use Rattle.std.proofs.Common.{◌≡◌, ◌++◌, drop}
use Rattle.std.specs.List.{flat_map}
use Rattle.nr_link.specs.Around.{places}
use Rattle.nr_link.proofs.frames.in_places.Given as goal

abbrev pub invariant-loop-local : goal.invariant-loop-local
invariant-loop-local l = l.locals ++ flat_map places (drop l.local-index l.types) ≡ flat_map places l.types
