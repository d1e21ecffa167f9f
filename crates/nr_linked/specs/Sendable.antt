-- Which kinds of objects and arrays a call carries. The rule is the project's own, after the Java Object Serialization
-- Specification 1.10 and 4: what it leaves out is a class that takes part in its own serialization.
use Rattle.std.specs.Prelude.{ℕ, List, [], ◌∷◌, length, Bool, false, not, ◌&&◌, ◌||◌, ◌==◌, nat_le, codes, if◌then◌else◌}
use Rattle.std.specs.List.{list_any, list_all}
use Rattle.std.specs.Str.{bytes_eq}
use Rattle.std.specs.Option.{option_map_or}
use Rattle.nr_prog.specs.declared.member.Field.{Field}
use Rattle.nr_prog.specs.declared.member.Method.{Method}
use Rattle.nr_prog.specs.declared.parts.ClassParts.{ClassParts}
use Rattle.nr_prog.specs.declared.pool.PoolEntry.{PoolEntry}
use Rattle.nr_linked.specs.declared.program.kind.Kind.{Kind}
use Rattle.nr_linked.specs.declared.program.built_in.BuiltIn.TheVariants.{Object, Serializable}
use Rattle.nr_linked.specs.declared.program.tables.ProgramTables.{ProgramTables}
use Rattle.nr_linked.specs.declared.program.tables.SlotInfo.{SlotInfo}
use Rattle.nr_prog.specs.Members.{has_flag, is_static, is_abstract, spells}
use Rattle.nr_linked.specs.BuiltIns.{built_in}
use Rattle.nr_linked.specs.Kinds.{class_in, is_array}
use Rattle.nr_linked.specs.KindTexts.{kind_text}
use Rattle.nr_linked.specs.Programs.{class_at, superclasses}
use Rattle.nr_linked.specs.Slots.{slots_of}
use Rattle.nr_linked.specs.Subtypes.{is_above}

-- ---- the left-out features, by a class's own parts

abbrev pub is_serial_method_name : List ℕ → Bool
is_serial_method_name name = list_any (bytes_eq name) (codes "writeObject" ∷ codes "readObject" ∷ codes "readObjectNoData" ∷ codes "readResolve" ∷ codes "writeReplace" ∷ [])

-- whatever its descriptor
abbrev pub is_serial_method : List PoolEntry → Method → Bool
is_serial_method pool m = spells is_serial_method_name pool m.name

abbrev pub is_transient : ℕ → Bool
is_transient flags = has_flag 0x0080 flags

-- it lists the fields to be sent
abbrev pub lists_fields : List PoolEntry → Field → Bool
lists_fields pool f = spells (bytes_eq (codes "serialPersistentFields")) pool f.name

-- such a list, or an instance field that isn't sent
abbrev pub is_serial_field : List PoolEntry → Field → Bool
is_serial_field pool f = lists_fields pool f || (is_transient f.flags && not (is_static f.flags))

unfoldable pub has_feature : ClassParts → Bool
has_feature c = list_any (is_serial_method c.pool) c.methods || list_any (is_serial_field c.pool) c.fields

-- the class as it was read has such a feature; a built-in class has none
abbrev pub is_serial_class : ProgramTables → ℕ → Bool
is_serial_class P c = option_map_or (λ e. option_map_or has_feature e.read false) (class_at P c) false

-- ---- two instance fields of one name in one class

abbrev pub is_twin : SlotInfo → SlotInfo → Bool
is_twin s t = s.declared_in == t.declared_in && bytes_eq s.name t.name

-- whether there is a slot with a later twin
abbrev pub has_twins : List SlotInfo → Bool
has_twins [] = false
has_twins (s ∷ ss) = list_any (is_twin s) ss || has_twins ss

-- ---- the rule

abbrev pub is_serializable : ProgramTables → ℕ → Bool
is_serializable P c = is_above P c (built_in P Serializable)

-- neither an interface nor abstract
abbrev pub is_concrete : ProgramTables → ℕ → Bool
is_concrete P c = option_map_or (λ e. not (has_flag 0x0200 e.flags) && not (is_abstract e.flags)) (class_at P c) false

-- the class and each superclass but Object
abbrev pub are_serializable : ProgramTables → ℕ → Bool
are_serializable P c = list_all (λ d. d == built_in P Object || is_serializable P d) (superclasses P c)

-- The class and each superclass but Object is Serializable, and neither it nor a superclass has a left-out feature or
-- two instance fields of one name.
abbrev pub is_class_sendable : ProgramTables → ℕ → Bool
is_class_sendable P c =
    is_concrete P c && (is_serializable P c
    && (are_serializable P c
    && (not (list_any (is_serial_class P) (superclasses P c)) && not (has_twins (slots_of P c)))))

-- An array, unless its descriptor is too long for a stream's count of bytes; an object of a sendable class. A primitive
-- type is no class.
abbrev pub is_sendable : ProgramTables → Kind → Bool
is_sendable P k =
    if is_array k then nat_le (length (kind_text P k)) 65535
    else option_map_or (is_class_sendable P) (class_in k.base) false
