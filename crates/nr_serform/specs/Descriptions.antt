-- Class descriptions: Java Object Serialization Specification 6.4.2, newClassDesc, in the project's profile.
use Rattle.std.specs.Prelude.{◌≡◌, ℕ, ◌<◌, ◌^◌, List, [], ◌∷◌, ◌++◌, length, map, Bool, true, false, ◌==◌, Option, Some, None, if◌then◌else◌}
use Rattle.std.specs.Int.{w16, w64, to_be_bytes}
use Rattle.std.specs.Option.{option_map_or, option_and_then}
use Rattle.nr_linked.specs.declared.program.built_in.BuiltIn.TheVariants as built_ins
use Rattle.nr_linked.specs.declared.program.kind.Base.{Base}
use Rattle.nr_linked.specs.declared.program.kind.Base.TheVariants as bases
use Rattle.nr_linked.specs.declared.program.kind.Kind.{Kind}
use Rattle.nr_linked.specs.declared.program.tables.ProgramTables.{ProgramTables}
use Rattle.nr_linked.specs.declared.program.tables.SlotInfo.{SlotInfo}
use Rattle.nr_linked.specs.BuiltIns.{built_in}
use Rattle.nr_linked.specs.Kinds.{class_in, class_kind, is_array, is_reference}
use Rattle.nr_linked.specs.KindTexts.{class_name, kind_text}
use Rattle.nr_linked.specs.Programs.{super_of}
use Rattle.nr_graph.specs.StreamOrder.{declared_slots}
use Rattle.nr_serform.specs.ClassNumbers.{class_number, dotted, utf}
use Rattle.nr_serform.specs.Entries.{Class, Text}
use Rattle.nr_serform.specs.Handles.{Table, has, handle_text}

-- the class's name, or the array's descriptor, with dots
unfoldable pub stream_name : ProgramTables → Kind → List ℕ
stream_name P kind =
    if is_array kind then dotted (kind_text P kind)
    else option_map_or (λ c. dotted (class_name P c)) (class_in kind.base) []

-- ---- fields

-- the first letter of the field's descriptor (4.3.2 of the JVM Specification)
abbrev pub letter : Kind → ℕ
letter kind = if is_array kind then 0x5B else by_base kind.base
  where
    by_base : Base → ℕ
    by_base bases.Bool = 0x5A
    by_base bases.Byte = 0x42
    by_base bases.Char = 0x43
    by_base bases.Short = 0x53
    by_base bases.Int = 0x49
    by_base bases.Long = 0x4A
    by_base (bases.Object c) = 0x4C

-- a string that is given a handle, or has one
abbrev pub string_text : Table → List ℕ → List ℕ
string_text table t = if has table (Text t) then handle_text table (Text t) else 0x74 ∷ utf t

abbrev pub string_table : Table → List ℕ → Table
string_table table t = if has table (Text t) then table else table ++ Text t ∷ []

abbrev pub field_text : Table → SlotInfo → List ℕ
field_text table s = letter s.kind ∷ (utf s.name ++ (if is_reference s.kind then string_text table s.desc else []))

abbrev pub field_table : Table → SlotInfo → Table
field_table table s = if is_reference s.kind then string_table table s.desc else table

abbrev pub fields_text : Table → List SlotInfo → List ℕ
fields_text table [] = []
fields_text table (s ∷ ss) = field_text table s ++ fields_text (field_table table s) ss

abbrev pub fields_table : Table → List SlotInfo → Table
fields_table table [] = table
fields_table table (s ∷ ss) = fields_table (field_table table s) ss

-- the fields that the class itself declares, in the order of the stream
abbrev pub own_fields : ProgramTables → ℕ → List SlotInfo
own_fields P c = map (λ a. a.1) (declared_slots P c c)

-- the fields of a description; an array has none
unfoldable pub described_fields : ProgramTables → Kind → List SlotInfo
described_fields P kind = if is_array kind then [] else option_map_or (own_fields P) (class_in kind.base) []

-- ---- the superclass: none where that is java/lang/Object, and for an array

abbrev pub unless_object : ProgramTables → ℕ → Option ℕ
unless_object P d = if d == built_in P built_ins.Object then None else Some d

abbrev pub super_but_object : ProgramTables → ℕ → Option ℕ
super_but_object P c = option_and_then (unless_object P) (super_of P c)

unfoldable pub described_super : ProgramTables → Kind → Option Kind
described_super P kind =
    if is_array kind then None
    else option_and_then (λ c. option_and_then (λ d. Some (class_kind d)) (super_but_object P c)) (class_in kind.base)

-- ---- numbers: that of an array is written as 0 and read as any

abbrev pub IsNumberOf : ProgramTables → Bool → Kind → ℕ → Type 0
IsNumberOf P canonical kind n = by_sort (is_array kind) canonical
  where
    by_sort : Bool → Bool → Type 0
    by_sort true true = n ≡ 0
    by_sort true false = n < 2 ^ 64
    by_sort false canonical = n ≡ option_map_or (class_number P) (class_in kind.base) 0

-- ---- descriptions

-- what stands before the fields, and the fields; the description gets its handle before those of its fields
abbrev pub own_text : ProgramTables → Table → Kind → ℕ → List ℕ
own_text P table kind number =
    0x72 ∷ (utf (stream_name P kind) ++ to_be_bytes w64 number ++ 2 ∷ to_be_bytes w16 (length (described_fields P kind))
    ++ fields_text (table ++ Class kind ∷ []) (described_fields P kind) ++ 0x78 ∷ [])

abbrev pub own_table : ProgramTables → Table → Kind → Table
own_table P table kind = fields_table (table ++ Class kind ∷ []) (described_fields P kind)

-- The text describes the class, where `table` has the handles that were given before, and `after` those that were given
-- then. A class that has a handle is always written as that.
pub data Describes (P : ProgramTables) (canonical : Bool) : Option Kind → Table → List ℕ → Table → Type 0 where
  nothing : {table : Table} {text : List ℕ} → text ≡ 0x70 ∷ [] → Describes P canonical None table text table
  again : {kind : Kind} {table : Table} {text : List ℕ} → has table (Class kind) ≡ true → text ≡ handle_text table (Class kind)
      → Describes P canonical (Some kind) table text table
  anew : {kind : Kind} {table after : Table} {text up : List ℕ} (number : ℕ) → has table (Class kind) ≡ false
      → IsNumberOf P canonical kind number
      → Describes P canonical (described_super P kind) (own_table P table kind) up after
      → text ≡ own_text P table kind number ++ up → Describes P canonical (Some kind) table text after
