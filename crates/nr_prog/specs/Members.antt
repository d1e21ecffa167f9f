-- Fields and methods: JVM Specification 4.5, 4.6 and 4.7.
use Rattle.std.specs.Prelude.{ℕ, List, length, Bool, true, false, not, ◌&&◌, ◌||◌, ◌==◌, nat_lt, nat_le, Option, Some, None, is_some, is_none, if◌then◌else◌, bit_and, codes}
use Rattle.std.specs.Str.{bytes_eq}
use Rattle.std.specs.List.{list_any}
use Rattle.std.specs.Option.{option_map_or}
use Rattle.nr_prog.specs.declared.pool.PoolEntry.{PoolEntry}
use Rattle.nr_prog.specs.declared.pool.PoolEntry.TheVariants.{Class}
use Rattle.nr_prog.specs.declared.form.constant.ConstantKind.{ConstantKind}
use Rattle.nr_prog.specs.declared.form.constant.ConstantKind.TheVariants as kinds
use Rattle.nr_prog.specs.declared.member.Method.{Method}
use Rattle.nr_prog.specs.declared.member.Code.{Code}
use Rattle.nr_prog.specs.Pool.{names, text_at, is_integer, is_long, is_string}
use Rattle.nr_prog.specs.LegalTests.{is_class_text, is_void_desc}

-- whether the index names a text that passes the test
unfoldable pub spells : (List ℕ → Bool) → List PoolEntry → ℕ → Bool
spells test pool index = option_map_or test (text_at pool index) false

-- ---- classes that are named (4.4.1)

abbrev pub names_class_of : List PoolEntry → PoolEntry → Bool
names_class_of pool (Class name) = spells is_class_text pool name
names_class_of pool e = false

-- whether the index names a class with a legal name
unfoldable pub is_class_named : List PoolEntry → ℕ → Bool
is_class_named pool index = names (names_class_of pool) pool index

-- ---- the same name and the same descriptor

-- whether the indices name these texts
unfoldable pub is_spelled : List PoolEntry → List ℕ → List ℕ → ℕ → ℕ → Bool
is_spelled pool name desc n d = spells (bytes_eq name) pool n && spells (bytes_eq desc) pool d

-- whether a member of the list has this name and this descriptor
unfoldable pub is_in : {X : Type 0} → (X → ℕ) → (X → ℕ) → List PoolEntry → List X → List ℕ → List ℕ → Bool
is_in name_of desc_of pool members name desc = list_any (λ m. is_spelled pool name desc (name_of m) (desc_of m)) members

-- whether the indices name the name and the descriptor of an earlier member, where `earlier` tells which those are
unfoldable pub is_among : (List ℕ → List ℕ → Bool) → List PoolEntry → ℕ → ℕ → Bool
is_among earlier pool n d = spells (λ name. spells (earlier name) pool d) pool n

-- ---- constant values (4.7.2, table 4.7.2-A)

-- the kind of constant value that a field of this descriptor takes, if it takes any
abbrev pub constant_kind : List ℕ → Option ConstantKind
constant_kind desc =
    if bytes_eq desc (codes "I") || bytes_eq desc (codes "S") || bytes_eq desc (codes "C") || bytes_eq desc (codes "B") || bytes_eq desc (codes "Z") then Some kinds.Integer
    else (if bytes_eq desc (codes "J") then Some kinds.Long
    else (if bytes_eq desc (codes "Ljava/lang/String;") then Some kinds.Str else None))

abbrev pub is_of_kind : ConstantKind → PoolEntry → Bool
is_of_kind kinds.Integer e = is_integer e
is_of_kind kinds.Long e = is_long e
is_of_kind kinds.Str e = is_string e

-- the constant is of its field's kind; the index 0 stands for none
unfoldable pub is_constant_formed : List PoolEntry → ℕ → ℕ → Bool
is_constant_formed pool desc constant =
    constant == 0 || spells (λ text. option_map_or (λ kind. names (is_of_kind kind) pool constant) (constant_kind text) false) pool desc

-- ---- flags and code of methods (table 4.6-A, 4.7.3)

abbrev pub has_flag : ℕ → ℕ → Bool
has_flag flag flags = not (bit_and flags flag == 0)

abbrev pub is_static : ℕ → Bool
is_static flags = has_flag 0x0008 flags

abbrev pub is_synchronized : ℕ → Bool
is_synchronized flags = has_flag 0x0020 flags

abbrev pub is_native : ℕ → Bool
is_native flags = has_flag 0x0100 flags

abbrev pub is_abstract : ℕ → Bool
is_abstract flags = has_flag 0x0400 flags

-- an instance initialiser is neither static nor abstract, and returns nothing (2.9)
abbrev pub is_initialiser_formed : List ℕ → Bool → ℕ → Bool
is_initialiser_formed name void flags =
    not (bytes_eq name (codes "<init>")) || (not (is_static flags) && not (is_abstract flags) && void)

-- code has 1 to 65,535 bytes (4.7.3, code_length)
abbrev pub is_code_sized : Option Code → Bool
is_code_sized None = true
is_code_sized (Some code) = nat_lt 0 (length code.bytes) && nat_le (length code.bytes) 65535

-- a method whatever its name: not both static and abstract (4.6), and neither native nor synchronized, by the
-- project's own rule
unfoldable pub is_plain : Method → Bool
is_plain m =
    not (is_native m.flags) && not (is_synchronized m.flags)
    && not (is_static m.flags && is_abstract m.flags)
    && is_code_sized m.code

-- a method of the name, which returns nothing or something
unfoldable pub is_in_profile : List ℕ → Bool → Method → Bool
is_in_profile name void m = is_plain m && is_initialiser_formed name void m.flags

-- the same, of the name and the descriptor that the method's indices name
unfoldable pub is_profile_method : List PoolEntry → Method → Bool
is_profile_method pool m = spells (λ name. spells (λ desc. is_in_profile name (is_void_desc desc) m) pool m.desc) pool m.name

-- a method has code exactly where it isn't abstract (4.7.3)
unfoldable pub has_its_code : Method → Bool
has_its_code m = if is_abstract m.flags then is_none m.code else is_some m.code
