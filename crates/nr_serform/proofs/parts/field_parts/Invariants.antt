use Rattle.std.proofs.Common.{◌≡◌, map, take}
use Rattle.std.specs.List.{All, filter}
use Rattle.nr_serform.specs.ClassNumbers.{field_part, is_field_part}
use Rattle.nr_serform.specs.Members.{IsShort, part_of}
use Rattle.nr_serform.proofs.parts.field_parts.Given as goal

abbrev pub invariant-loop-field : goal.invariant-loop-field
invariant-loop-field l = record {
  parts : map part_of l.parts.items ≡ map (field_part l.class.pool) (filter is_field_part (take l.field-index l.field-items));
  short : All IsShort l.parts.items;
}
