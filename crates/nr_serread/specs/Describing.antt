-- Reading a class description, with the first fault: Java Object Serialization Specification 6.4, in the project's profile.
use Rattle.std.specs.Prelude.{ℕ, List, [], ◌∷◌, ◌++◌, drop, length, map, Bool, true, false, not, ◌&&◌, ◌||◌, ◌==◌, nat_eq, Option, Some, None, Result, Ok, Err, if◌then◌else◌}
use Rattle.std.specs.Int.{w16, w32, to_be_bytes}
use Rattle.std.specs.List.{list_any, filter}
use Rattle.std.specs.Option.{option_map, option_map_or, option_and_then}
use Rattle.std.specs.Str.{bytes_eq}
use Rattle.nr_base.specs.Reader.{◌>>=◌, pure, refuse, choose, from}
use Rattle.nr_base.specs.declared.desc.types.Desc.{Desc}
use Rattle.nr_base.specs.declared.desc.types.DescBase.{DescBase}
use Rattle.nr_base.specs.declared.desc.types.DescBase.TheVariants as desc_bases
use Rattle.nr_base.specs.DescReading.{desc_of}
use Rattle.nr_linked.specs.declared.program.built_in.BuiltIn.TheVariants as built_ins
use Rattle.nr_linked.specs.declared.program.kind.Base.{Base}
use Rattle.nr_linked.specs.declared.program.kind.Base.TheVariants as bases
use Rattle.nr_linked.specs.declared.program.kind.Kind.{Kind}
use Rattle.nr_linked.specs.declared.program.tables.ProgramTables.{ProgramTables}
use Rattle.nr_linked.specs.declared.program.tables.SlotInfo.{SlotInfo}
use Rattle.nr_linked.specs.BuiltIns.{built_in}
use Rattle.nr_linked.specs.Kinds.{class_in, class_kind, is_array, is_reference}
use Rattle.nr_linked.specs.KindTexts.{class_name}
use Rattle.nr_linked.specs.Programs.{class_named, superclasses}
use Rattle.nr_linked.specs.Sendable.{is_sendable}
use Rattle.nr_linked.specs.Subtypes.{is_assignable}
use Rattle.nr_serform.specs.ClassNumbers.{class_number, dotted, utf}
use Rattle.nr_serform.specs.Descriptions.{described_fields, letter}
use Rattle.nr_serform.specs.Entries.{Class, Text, is_same_kind}
use Rattle.nr_serform.specs.Handles.{Table, has, handle}
use Rattle.nr_serread.specs.declared.fault.StreamFault.{StreamFault}
use Rattle.nr_serread.specs.declared.fault.StreamFault.TheVariants as faults
use Rattle.nr_serread.specs.Items.{Read, u1_at, u2_at, u4_at, u8_at, utf_at, given_by, told_class_at, due_at}

-- ---- names

abbrev pub with_slash : ℕ → ℕ
with_slash b = if b == 0x2E then 0x2F else b

abbrev pub base_named : ProgramTables → DescBase → Option Base
base_named P desc_bases.Bool = Some bases.Bool
base_named P desc_bases.Byte = Some bases.Byte
base_named P desc_bases.Char = Some bases.Char
base_named P desc_bases.Short = Some bases.Short
base_named P desc_bases.Int = Some bases.Int
base_named P desc_bases.Long = Some bases.Long
base_named P (desc_bases.Object name) = option_map bases.Object (class_named P name)

-- the kind that a descriptor says
abbrev pub kind_of : ProgramTables → Desc → Option Kind
kind_of P d = option_map (λ base. record { dims = d.dims; base = base }) (base_named P d.base)

abbrev pub array_named : {F : Type 0} → ProgramTables → Result Desc F → Option Kind
array_named P (Ok d) = kind_of P d
array_named P (Err e) = None

abbrev pub is_descriptor : List ℕ → Bool
is_descriptor [] = false
is_descriptor (b ∷ bs) = b == 0x5B

-- the class that a stream's name names: an array's descriptor or a class's name, with dots for slashes
unfoldable pub kind_named : ProgramTables → List ℕ → Option Kind
kind_named P name =
    if list_any (nat_eq 0x2F) name then None
    else if is_descriptor name then array_named P (desc_of (map with_slash name))
    else option_map class_kind (class_named P (map with_slash name))

-- ---- from the number to the 78: of flags and fields one text is due

-- the string of a descriptor: one that has a handle is written as that
unfoldable pub string_at : List ℕ → Table → Read Table
string_at desc table =
    choose (has table (Text desc))
    (due_at u1_at (0x71 ∷ []) >>= λ _. due_at u4_at (to_be_bytes w32 (handle table (Text desc))) >>= λ _. pure table)
    (due_at u1_at (0x74 ∷ []) >>= λ _. due_at utf_at (utf desc) >>= λ _. pure (table ++ Text desc ∷ []))

unfoldable pub field_at : SlotInfo → Table → Read Table
field_at s table = do
  _ ← due_at u1_at (letter s.kind ∷ [])
  _ ← due_at utf_at (utf s.name)
  choose (is_reference s.kind) (string_at s.desc table) (pure table)

unfoldable pub fields_at : List SlotInfo → Table → Read Table
fields_at [] table = pure table
fields_at (s ∷ ss) table = field_at s table >>= λ t. fields_at ss t

-- an array's number is read as any
unfoldable pub uid_at : ProgramTables → Kind → Read ℕ
uid_at P kind = from (λ at. u8_at >>= λ n.
    choose (is_array kind || (n == option_map_or (class_number P) (class_in kind.base) 0)) (pure n) (refuse (faults.Uid at)))

-- what stands behind the name: the number, flags and fields; the description gets its handle before its fields
unfoldable pub own_at : ProgramTables → Kind → Table → Read Table
own_at P kind table = do
  _ ← uid_at P kind
  _ ← due_at u1_at (2 ∷ [])
  _ ← due_at u2_at (to_be_bytes w16 (length (described_fields P kind)))
  t ← fields_at (described_fields P kind) (table ++ Class kind ∷ [])
  _ ← due_at u1_at (0x78 ∷ [])
  pure t

-- ---- the superclasses that are described: all but java/lang/Object, the direct one first; an array has none

abbrev pub supers_of_class : ProgramTables → ℕ → List ℕ
supers_of_class P c = filter (λ d. not (d == built_in P built_ins.Object)) (drop 1 (superclasses P c))

unfoldable pub described_supers : ProgramTables → Kind → List ℕ
described_supers P kind = if is_array kind then [] else option_map_or (supers_of_class P) (class_in kind.base) []

-- behind the last one only 70 may stand
unfoldable pub no_super_at : Table → Read Bool
no_super_at table = from (λ at. u1_at >>= λ tag.
    choose (tag == 0x70) (pure true)
    (choose (tag == 0x71) (told_class_at at table >>= λ k. refuse (faults.HandleKind at))
    (choose (tag == 0x72) (from (λ name. utf_at >>= λ text. refuse (faults.ClassName name)))
    (refuse (faults.Tag at tag)))))

-- The name of a superclass that is due, and what stands behind it.
unfoldable pub new_super_at : ProgramTables → ℕ → Table → Read Table
new_super_at P c table = from (λ name. utf_at >>= λ text.
    choose (bytes_eq text (dotted (class_name P c)) && not (has table (Class (class_kind c)))) (own_at P (class_kind c) table) (refuse (faults.ClassName name)))

-- A superclass that is due, and whether those above it are described behind it: they are where it is new.
unfoldable pub super_at : ProgramTables → ℕ → Table → Read (Bool × Table)
super_at P c table = from (λ at. u1_at >>= λ tag.
    choose (tag == 0x71) (told_class_at at table >>= λ k. choose (is_same_kind (class_kind c) k) (pure (false, table)) (refuse (faults.HandleKind at)))
    (choose (tag == 0x72) (new_super_at P c table >>= λ t. pure (true, t))
    (refuse (faults.Tag at tag))))

unfoldable pub supers_at : ProgramTables → List ℕ → Table → Read Table
supers_at P [] table = no_super_at table >>= λ _. pure table
supers_at P (c ∷ cs) table = super_at P c table >>= λ r. choose r.0 (supers_at P cs r.1) (pure r.1)

-- ---- the description of a new object, or of a new array, whose tag stands at `start`

-- whether objects of the class are sent by a tag of this sort
abbrev pub is_of_sort : ProgramTables → Bool → Kind → Bool
is_of_sort P array k = (if array then is_array k else not (is_array k)) && is_sendable P k

abbrev pub unless_described : ProgramTables → Bool → Table → Kind → Option Kind
unless_described P array table k = if is_of_sort P array k && not (has table (Class k)) then Some k else None

-- the class that a name describes anew
abbrev pub new_kind : ProgramTables → Bool → Table → List ℕ → Option Kind
new_kind P array table name = option_and_then (unless_described P array table) (kind_named P name)

abbrev pub or_refuse : {A : Type 0} → StreamFault → Option A → Result A StreamFault
or_refuse e None = Err e
or_refuse e (Some x) = Ok x

-- the name of a class that is described anew
unfoldable pub name_at : ProgramTables → Bool → Table → Read Kind
name_at P array table = from (λ at. utf_at >>= λ text. given_by (or_refuse (faults.ClassName at) (new_kind P array table text)))

-- An object goes where the slot wants its class, or is refused as soon as its class is known.
abbrev pub suited : ProgramTables → Kind → ℕ → Kind → Result Bool StreamFault
suited P wanted start k = if is_assignable P k wanted then Ok true else Err (faults.SlotType start)

unfoldable pub behind_name_at : ProgramTables → Kind → Table → Read Table
behind_name_at P k table = own_at P k table >>= λ t. supers_at P (described_supers P k) t

unfoldable pub new_desc_at : ProgramTables → Bool → Kind → ℕ → Table → Read (Kind × Table)
new_desc_at P array wanted start table = do
  k ← name_at P array table
  _ ← given_by (suited P wanted start k)
  t ← behind_name_at P k table
  pure (k, t)

unfoldable pub old_desc_at : ProgramTables → Bool → Kind → ℕ → ℕ → Table → Read (Kind × Table)
old_desc_at P array wanted start at table = told_class_at at table >>= λ k.
    choose (is_of_sort P array k) (given_by (suited P wanted start k) >>= λ _. pure (k, table)) (refuse (faults.HandleKind at))

unfoldable pub desc_at : ProgramTables → Bool → Kind → ℕ → Table → Read (Kind × Table)
desc_at P array wanted start table = from (λ at. u1_at >>= λ tag.
    choose (tag == 0x71) (old_desc_at P array wanted start at table)
    (choose (tag == 0x72) (new_desc_at P array wanted start table)
    (refuse (faults.Tag at tag))))
