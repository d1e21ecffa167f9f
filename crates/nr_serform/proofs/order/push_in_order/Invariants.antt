use Rattle.std.proofs.Common.{◌≡◌, ◌++◌, map, take}
use Rattle.nr_serform.specs.StreamSlots.{placed_of, slots_in_order}
use Rattle.nr_serform.proofs.order.push_in_order.Given as goal

abbrev pub invariant-loop-member : goal.invariant-loop-member
invariant-loop-member l = map placed_of l.found.items ≡ map placed_of l.fn.found.items ++ take l.member-index (slots_in_order l.slots l.«class» l.references)
