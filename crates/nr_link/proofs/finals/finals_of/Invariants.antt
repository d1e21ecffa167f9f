use Rattle.std.proofs.Common.{◌≡◌}
use Rattle.std.specs.List.{flat_map, range_with_len}
use Rattle.nr_link.specs.Finals.{finals_with}
use Rattle.nr_link.proofs.finals.finals_of.Given as goal

abbrev pub invariant-loop-class : goal.invariant-loop-class
invariant-loop-class l = l.finals ≡ flat_map (finals_with l.tables) (range_with_len 0 l.class)
