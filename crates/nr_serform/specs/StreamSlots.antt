-- The slots of objects as the code has them, in the order of the stream.
use Rattle.std.specs.Prelude.{ℕ, List, ◌++◌, Bool, true, false, not, ◌&&◌, ◌==◌, map, if◌then◌else◌}
use Rattle.std.specs.List.{filter}
use Rattle.nr_linked.specs.declared.program.kind.Kind.{Kind}
use Rattle.nr_linked.specs.declared.program.tables.ProgramTables.{ProgramTables}
use Rattle.nr_linked.specs.declared.program.tables.SlotInfo.{SlotInfo}
use Rattle.nr_linked.specs.Kinds.{is_reference}
use Rattle.nr_graph.specs.Sorted.{sorted}
use Rattle.nr_graph.specs.StreamOrder.{Placed, is_before, placed, stream_slots}
use Rattle.nr_serform.specs.declared.order.StreamSlot.{StreamSlot}
use Rattle.nr_serform.specs.ClassNumbers.{Part}

abbrev pub placed_of : StreamSlot → Placed
placed_of s = (s.place, s.slot.now)

-- the heap slots of the class's objects, in the order of the stream
abbrev pub stream_places : ProgramTables → ℕ → List ℕ
stream_places P c = map (λ a. a.0) (stream_slots P c)

-- what they hold
abbrev pub stream_kinds : ProgramTables → ℕ → List Kind
stream_kinds P c = map (λ a. a.1.kind) (stream_slots P c)

-- ---- of the slots of a list, those that a class declares, of references or of primitive types

abbrev pub is_of_sort : ℕ → Bool → SlotInfo → Bool
is_of_sort d references s = (s.declared_in == d) && (if references then is_reference s.kind else not (is_reference s.kind))

abbrev pub slots_of_sort : List SlotInfo → ℕ → Bool → List Placed
slots_of_sort ss d references = filter (λ a. is_of_sort d references a.1) (placed 0 ss)

abbrev pub slots_in_order : List SlotInfo → ℕ → Bool → List Placed
slots_in_order ss d references = sorted is_before (slots_of_sort ss d references)

-- a slot as a member: its name, its place and its descriptor
abbrev pub slot_part : Placed → Part
slot_part a = record { name = a.1.name; flags = a.0; desc = a.1.desc }

abbrev pub slots_declared : List SlotInfo → ℕ → List Placed
slots_declared ss d = slots_in_order ss d false ++ slots_in_order ss d true
