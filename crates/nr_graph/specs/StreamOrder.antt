-- The order in which a stream has the slots of an object: Java Object Serialization Specification 4.3 and 6.4.
use Rattle.std.specs.Prelude.{ℕ, suc, List, [], ◌∷◌, ◌++◌, Bool, not, ◌==◌, reverse, Option, Some, slice_get, if◌then◌else◌}
use Rattle.std.specs.List.{filter, flat_map}
use Rattle.std.specs.Option.{option_map, option_and_then}
use Rattle.std.specs.Str.{bytes_eq}
use Rattle.nr_linked.specs.declared.program.kind.Kind.{Kind}
use Rattle.nr_linked.specs.declared.program.tables.ProgramTables.{ProgramTables}
use Rattle.nr_linked.specs.declared.program.tables.SlotInfo.{SlotInfo}
use Rattle.nr_linked.specs.Kinds.{class_in, element_of, is_array, is_reference}
use Rattle.nr_linked.specs.Programs.{superclasses}
use Rattle.nr_linked.specs.Slots.{slots_of}
use Rattle.nr_graph.specs.Sorted.{is_at_most, sorted}

-- a slot's place in the object, and the slot
abbrev pub Placed : Type 0
Placed = ℕ × SlotInfo

-- slots with their places, from place i on
abbrev pub placed : ℕ → List SlotInfo → List Placed
placed i [] = []
placed i (s ∷ ss) = (i, s) ∷ placed (suc i) ss

-- by the bytes of the names, and slots of one name by those of their descriptors
abbrev pub is_before : Placed → Placed → Bool
is_before a b = if bytes_eq a.1.name b.1.name then is_at_most a.1.desc b.1.desc else is_at_most a.1.name b.1.name

abbrev pub holds_reference : Placed → Bool
holds_reference a = is_reference a.1.kind

-- the slots that class d declares, in objects of class c: those of primitive types first, each group in order
abbrev pub declared_slots : ProgramTables → ℕ → ℕ → List Placed
declared_slots P c d =
    let own = filter (λ a. a.1.declared_in == d) (placed 0 (slots_of P c)) in
    sorted is_before (filter (λ a. not (holds_reference a)) own) ++ sorted is_before (filter holds_reference own)

-- all slots of objects of class c: those that its topmost superclass declares first
abbrev pub stream_slots : ProgramTables → ℕ → List Placed
stream_slots P c = flat_map (declared_slots P c) (reverse (superclasses P c))

-- Where an object or an array has the k-th slot of a stream. An array's elements stand in their order.
abbrev pub stream_place : ProgramTables → Kind → ℕ → Option ℕ
stream_place P kind k =
    if is_array kind then Some k
    else option_and_then (λ c. option_map (λ a. a.0) (slice_get (stream_slots P c) k)) (class_in kind.base)

-- what the k-th slot of a stream holds
abbrev pub stream_kind : ProgramTables → Kind → ℕ → Option Kind
stream_kind P kind k =
    if is_array kind then element_of kind
    else option_and_then (λ c. option_map (λ a. a.1.kind) (slice_get (stream_slots P c) k)) (class_in kind.base)
