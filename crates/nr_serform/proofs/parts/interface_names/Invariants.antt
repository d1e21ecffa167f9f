use Rattle.std.proofs.Common.{◌≡◌, ◌<◌, ◌^◌, length, map, take}
use Rattle.std.specs.List.{All}
use Rattle.nr_serform.specs.ClassNumbers.{interface_name}
use Rattle.nr_serform.proofs.parts.interface_names.Given as goal

abbrev pub invariant-loop-index : goal.invariant-loop-index
invariant-loop-index l = record {
  names : map (λ name. name.now) l.names.items ≡ map (interface_name l.class.pool) (take l.index-index l.index-items);
  short : All (λ name. length name.now < 2 ^ 16) l.names.items;
}
