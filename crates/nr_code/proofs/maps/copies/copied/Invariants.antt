use Rattle.std.proofs.Common.{◌≡◌, take}
use Rattle.nr_code.proofs.maps.copies.copied.Given as goal

abbrev pub invariant-loop-map_type : goal.invariant-loop-map_type
invariant-loop-map_type l = l.copies ≡ take l.map_type-index l.types
