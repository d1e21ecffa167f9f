use Rattle.std.proofs.Common.{◌≡◌, map, take}
use Rattle.std.specs.List.{All}
use Rattle.nr_serform.specs.Members.{IsShort, part_of}
use Rattle.nr_serform.specs.StreamSlots.{slot_part, slots_of_sort}
use Rattle.nr_serform.proofs.order.slots_of_sort.Given as goal

abbrev pub invariant-loop-place : goal.invariant-loop-place
invariant-loop-place l = record {
  parts : map part_of l.members.items ≡ map slot_part (slots_of_sort (take l.place l.slots) l.«class» l.references);
  short : All IsShort l.members.items;
}
