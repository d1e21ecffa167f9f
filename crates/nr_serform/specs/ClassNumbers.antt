-- Class numbers: Java Object Serialization Specification 4.6, in the project's profile. No other machine is said to
-- compute the same.
use Rattle.std.specs.Prelude.{ℕ, ℤ, List, [], ◌++◌, length, map, take, Bool, true, false, not, ◌&&◌, ◌||◌, ◌==◌, Option, Some, None, bit_and, codes, if◌then◌else◌}
use Rattle.std.specs.Int.{w16, w32, w64, to_be_bytes, from_le_bytes, cast_unsigned}
use Rattle.std.specs.List.{filter, flat_map, find}
use Rattle.std.specs.Option.{option_map_or, option_and_then}
use Rattle.std.specs.Str.{bytes_eq}
use Rattle.sha1.specs.Sha1.{sha1}
use Rattle.nr_prog.specs.declared.member.Field.{Field}
use Rattle.nr_prog.specs.declared.member.Method.{Method}
use Rattle.nr_prog.specs.declared.parts.ClassParts.{ClassParts}
use Rattle.nr_prog.specs.declared.pool.PoolEntry.{PoolEntry}
use Rattle.nr_prog.specs.declared.pool.PoolEntry.TheVariants as pool_entries
use Rattle.nr_prog.specs.BodyNames.{class_text_at}
use Rattle.nr_prog.specs.Members.{has_flag, is_static, spells}
use Rattle.nr_prog.specs.Pool.{entry_at, text_at}
use Rattle.nr_linked.specs.declared.program.tables.ProgramTables.{ProgramTables}
use Rattle.nr_linked.specs.KindTexts.{class_name}
use Rattle.nr_linked.specs.Programs.{class_at}
use Rattle.nr_linked.specs.Selection.{is_private}
use Rattle.nr_linked.specs.Sendable.{is_transient}
use Rattle.nr_graph.specs.Sorted.{is_at_most, sorted}

-- ---- texts

abbrev pub with_dot : ℕ → ℕ
with_dot b = if b == 0x2F then 0x2E else b

-- each slash as a dot
abbrev pub dotted : List ℕ → List ℕ
dotted bytes = map with_dot bytes

-- a length in two bytes, and the bytes
abbrev pub utf : List ℕ → List ℕ
utf bytes = to_be_bytes w16 (length bytes) ++ bytes

abbrev pub text_of : List PoolEntry → ℕ → List ℕ
text_of pool index = option_map_or (λ t. t) (text_at pool index) []

-- ---- a number that the class declares: that of a field `static final long serialVersionUID` with a constant value

abbrev pub long_in : PoolEntry → Option ℤ
long_in (pool_entries.Long n) = Some n
long_in e = None

abbrev pub long_at : List PoolEntry → ℕ → Option ℤ
long_at pool index = option_and_then long_in (entry_at pool index)

abbrev pub is_number_field : List PoolEntry → Field → Bool
is_number_field pool f =
    has_flag 0x0008 f.flags && (has_flag 0x0010 f.flags
    && (spells (bytes_eq (codes "serialVersionUID")) pool f.name && (spells (bytes_eq (codes "J")) pool f.desc
    && not (f.constant == 0))))

abbrev pub declared_number : ClassParts → Option ℤ
declared_number c = option_and_then (λ f. long_at c.pool f.constant) (find (is_number_field c.pool) c.fields)

-- ---- else the first eight bytes of a digest of the class's parts

-- a field or a method: its name, its flags and its descriptor
pub record Part : Type 0 where
  pub name : List ℕ
  pub flags : ℕ
  pub desc : List ℕ

-- by the names, and those of one name by the descriptors
abbrev pub is_sooner : Part → Part → Bool
is_sooner p q = if bytes_eq p.name q.name then is_at_most p.desc q.desc else is_at_most p.name q.name

abbrev pub is_field_part : Field → Bool
is_field_part f = not (is_private f.flags && (is_static f.flags || is_transient f.flags))

abbrev pub field_part : List PoolEntry → Field → Part
field_part pool f = record { name = text_of pool f.name; flags = bit_and f.flags 0x00DF; desc = text_of pool f.desc }

abbrev pub field_part_text : Part → List ℕ
field_part_text p = utf p.name ++ (to_be_bytes w32 p.flags ++ utf p.desc)

abbrev pub fields_text : ClassParts → List ℕ
fields_text c = flat_map field_part_text (sorted is_sooner (map (field_part c.pool) (filter is_field_part c.fields)))

abbrev pub is_initialiser : List PoolEntry → Method → Bool
is_initialiser pool m = spells (bytes_eq (codes "<init>")) pool m.name

-- of the initialisers, or of the other methods, those that aren't private
abbrev pub is_method_part : List PoolEntry → Bool → Method → Bool
is_method_part pool initialisers m =
    not (is_private m.flags) && (if initialisers then is_initialiser pool m else not (is_initialiser pool m))

abbrev pub method_part : List PoolEntry → Method → Part
method_part pool m = record { name = text_of pool m.name; flags = bit_and m.flags 0x0D3F; desc = text_of pool m.desc }

-- a method's descriptor has dots
abbrev pub method_part_text : Part → List ℕ
method_part_text p = utf p.name ++ (to_be_bytes w32 p.flags ++ utf (dotted p.desc))

abbrev pub methods_text : ClassParts → Bool → List ℕ
methods_text c initialisers =
    flat_map method_part_text (sorted is_sooner (map (method_part c.pool) (filter (is_method_part c.pool initialisers) c.methods)))

abbrev pub interface_name : List PoolEntry → ℕ → List ℕ
interface_name pool index = option_map_or (λ t. t) (class_text_at pool index) []

abbrev pub dotted_text : List ℕ → List ℕ
dotted_text bytes = utf (dotted bytes)

abbrev pub interfaces_text : ClassParts → List ℕ
interfaces_text c = flat_map dotted_text (sorted is_at_most (map (interface_name c.pool) c.interfaces))

-- the class's name and flags, its direct superinterfaces, its fields, its initialisers, and its other methods
unfoldable pub parts_text : List ℕ → ClassParts → List ℕ
parts_text name c =
    dotted_text name ++ to_be_bytes w32 (bit_and c.flags 0x0611) ++ interfaces_text c ++ fields_text c
    ++ methods_text c true ++ methods_text c false

unfoldable pub digest_number : List ℕ → ClassParts → ℕ
digest_number name c = from_le_bytes w64 (take 8 (sha1 (parts_text name c)))

unfoldable pub parts_number : List ℕ → ClassParts → ℕ
parts_number name c = option_map_or (cast_unsigned w64) (declared_number c) (digest_number name c)

-- the number of a class that was read; a built-in class has none
unfoldable pub class_number : ProgramTables → ℕ → ℕ
class_number P c = option_map_or (parts_number (class_name P c)) (option_and_then (λ e. e.read) (class_at P c)) 0
