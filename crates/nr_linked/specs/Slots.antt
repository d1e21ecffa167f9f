-- The slots of a class's objects, which hold its instance fields: those of its superclass first.
use Rattle.std.specs.Prelude.{ℕ, List, [], Option, ◌&&◌, ◌==◌, slice_get}
use Rattle.std.specs.List.{position}
use Rattle.std.specs.Str.{bytes_eq}
use Rattle.std.specs.Option.{option_map, option_map_or}
use Rattle.nr_linked.specs.declared.program.kind.Kind.{Kind}
use Rattle.nr_linked.specs.declared.program.tables.ProgramTables.{ProgramTables}
use Rattle.nr_linked.specs.declared.program.tables.SlotInfo.{SlotInfo}
use Rattle.nr_linked.specs.Programs.{class_at}

abbrev pub slots_of : ProgramTables → ℕ → List SlotInfo
slots_of P c = option_map_or (λ e. e.slots) (class_at P c) []

-- the kind of what the slot holds
abbrev pub kind_of_slot : ProgramTables → ℕ → ℕ → Option Kind
kind_of_slot P c i = option_map (λ s. s.kind) (slice_get (slots_of P c) i)

-- the slot of the first field with this name that the class `declared_in` declares, in objects of class c
abbrev pub slot_named : ProgramTables → ℕ → ℕ → List ℕ → Option ℕ
slot_named P c declared_in name = position (λ s. s.declared_in == declared_in && bytes_eq s.name name) (slots_of P c)
