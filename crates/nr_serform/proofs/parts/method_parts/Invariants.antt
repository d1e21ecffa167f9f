use Rattle.std.proofs.Common.{◌≡◌, map, take}
use Rattle.std.specs.List.{All, filter}
use Rattle.nr_serform.specs.ClassNumbers.{method_part, is_method_part}
use Rattle.nr_serform.specs.Members.{IsShort, part_of}
use Rattle.nr_serform.proofs.parts.method_parts.Given as goal

abbrev pub invariant-loop-method : goal.invariant-loop-method
invariant-loop-method l = record {
  parts : map part_of l.parts.items ≡ map (method_part l.class.pool) (filter (is_method_part l.class.pool l.initialisers) (take l.method-index l.method-items));
  short : All IsShort l.parts.items;
}
