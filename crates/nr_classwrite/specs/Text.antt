-- The text that is written of a class: JVM Specification 4.
use Rattle.std.specs.Prelude.{ℕ, ◌+◌, List, [], ◌++◌, length, Option, Some, None, ◌==◌, if◌then◌else◌}
use Rattle.std.specs.List.{flat_map}
use Rattle.std.specs.Int.{w8, w16, w32, w64, to_be_bytes, cast_unsigned}
use Rattle.nr_prog.specs.declared.pool.PoolEntry.{PoolEntry}
use Rattle.nr_prog.specs.declared.pool.PoolEntry.TheVariants.{Utf8, Integer, Float, Long, Double, Class, Str, FieldRef, MethodRef, InterfaceMethodRef, NameAndType, Unused}
use Rattle.nr_prog.specs.declared.member.Field.{Field}
use Rattle.nr_prog.specs.declared.member.Handler.{Handler}
use Rattle.nr_prog.specs.declared.member.Code.{Code}
use Rattle.nr_prog.specs.declared.member.Method.{Method}
use Rattle.nr_prog.specs.declared.parts.ClassParts.{ClassParts}
use Rattle.nr_classwrite.specs.Names.{names_of, or_zero}
use Rattle.nr_classwrite.specs.Faults.{contents_len}
use Rattle.nr_classwrite.specs.declared.names.AttrNames.{AttrNames}

-- ---- numbers, the most significant byte first

unfoldable pub one : ℕ → List ℕ
one n = to_be_bytes w8 n

unfoldable pub two : ℕ → List ℕ
two n = to_be_bytes w16 n

unfoldable pub four : ℕ → List ℕ
four n = to_be_bytes w32 n

unfoldable pub eight : ℕ → List ℕ
eight n = to_be_bytes w64 n

-- ---- the constant pool (4.4)

abbrev pub entry_text : PoolEntry → List ℕ
entry_text (Utf8 bytes) = one 1 ++ (two (length bytes) ++ bytes)
entry_text (Integer z) = one 3 ++ four (cast_unsigned w32 z)
entry_text (Float bits) = one 4 ++ four bits
entry_text (Long z) = one 5 ++ eight (cast_unsigned w64 z)
entry_text (Double bits) = one 6 ++ eight bits
entry_text (Class name) = one 7 ++ two name
entry_text (Str text) = one 8 ++ two text
entry_text (FieldRef class member) = one 9 ++ (two class ++ two member)
entry_text (MethodRef class member) = one 10 ++ (two class ++ two member)
entry_text (InterfaceMethodRef class member) = one 11 ++ (two class ++ two member)
entry_text (NameAndType name desc) = one 12 ++ (two name ++ two desc)
entry_text Unused = []

abbrev pub pool_text : List PoolEntry → List ℕ
pool_text pool = two (length pool + 1) ++ flat_map entry_text pool

-- a count and the texts of so many items
abbrev pub list_text : {A : Type 0} → (A → List ℕ) → List A → List ℕ
list_text text xs = two (length xs) ++ flat_map text xs

-- ---- attributes (4.7)

-- the count 1, attribute_name_index and attribute_length of the one attribute
abbrev pub attribute_text : ℕ → ℕ → List ℕ
attribute_text name len = two 1 ++ (two name ++ four len)

-- ---- members (4.5, 4.6, 4.7.3)

abbrev pub constant_text : AttrNames → ℕ → List ℕ
constant_text names constant =
    if constant == 0 then two 0 else attribute_text (or_zero names.constant) 2 ++ two constant

abbrev pub field_text : AttrNames → Field → List ℕ
field_text names f = two f.flags ++ (two f.name ++ (two f.desc ++ constant_text names f.constant))

abbrev pub handler_text : Handler → List ℕ
handler_text h = two h.start ++ (two h.end ++ (two h.handler ++ two h.catch_type))

abbrev pub maps_text : AttrNames → Option (List ℕ) → List ℕ
maps_text names None = two 0
maps_text names (Some maps) = attribute_text (or_zero names.maps) (length maps) ++ maps

abbrev pub contents_text : AttrNames → Code → List ℕ
contents_text names code =
    two code.max_stack ++ (two code.max_locals ++ (four (length code.bytes) ++ (code.bytes
    ++ (list_text handler_text code.handlers ++ maps_text names code.maps))))

abbrev pub code_text : AttrNames → Option Code → List ℕ
code_text names None = two 0
code_text names (Some code) = attribute_text (or_zero names.code) (contents_len code) ++ contents_text names code

abbrev pub method_text : AttrNames → Method → List ℕ
method_text names m = two m.flags ++ (two m.name ++ (two m.desc ++ code_text names m.code))

-- ---- the file (4.1)

-- magic, minor_version, major_version
abbrev pub front_text : List ℕ
front_text = four 0xCAFEBABE ++ (two 0 ++ two 50)

-- access_flags, this_class, super_class, interfaces
abbrev pub indices_text : ClassParts → List ℕ
indices_text c = two c.flags ++ (two c.this_class ++ (two c.super_class ++ list_text two c.interfaces))

abbrev pub class_text : ClassParts → List ℕ
class_text c =
    front_text ++ (pool_text c.pool ++ (indices_text c ++ (list_text (field_text (names_of c.pool)) c.fields
    ++ (list_text (method_text (names_of c.pool)) c.methods ++ two 0))))
