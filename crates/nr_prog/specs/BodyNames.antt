-- What instructions, exception handlers and frame maps name in the constant pool: JVM Specification 4.4, and for each
-- instruction 6.5. A name is in modified UTF-8 without U+0000: the project's own rule.
use Rattle.std.specs.Prelude.{◌≡◌, ℕ, ◌+◌, ◌≤◌, ◌⊎◌, List, Bool, true, false, Option, None, IsSomeAnd}
use Rattle.std.specs.Option.{option_map_or}
use Rattle.nr_base.specs.ModifiedUtf8.{IsModifiedUtf8}
use Rattle.nr_base.specs.Descs.{desc, method_desc, slots}
use Rattle.nr_base.specs.declared.desc.types.Desc.{Desc}
use Rattle.nr_base.specs.declared.desc.types.DescBase.TheVariants.{Object}
use Rattle.nr_base.specs.declared.desc.types.MethodDesc.{MethodDesc}
use Rattle.nr_optable.specs.declared.table.Family.{Family}
use Rattle.nr_optable.specs.declared.table.Family.TheVariants.{F8, F30, F31, F32, F33, F34, F37}
use Rattle.nr_optable.specs.declared.table.Kinds.{Kinds}
use Rattle.nr_optable.specs.declared.table.Kinds.TheVariants.{Letters}
use Rattle.nr_optable.specs.declared.table.Letter.TheVariants.{J}
use Rattle.nr_prog.specs.declared.pool.PoolEntry.{PoolEntry}
use Rattle.nr_prog.specs.declared.pool.PoolEntry.TheVariants.{Integer, Float, Long, Double, Class, Str, FieldRef, MethodRef, InterfaceMethodRef, NameAndType}
use Rattle.nr_prog.specs.Pool.{entry_at, text_at}
use Rattle.nr_prog.specs.Legal.{IsClassText}
use Rattle.nr_prog.specs.Form.{Spells}

-- ---- classes (4.4.1)

abbrev pub class_text_in : List PoolEntry → PoolEntry → Option (List ℕ)
class_text_in pool (Class name) = text_at pool name
class_text_in pool e = None

-- the bytes that name the class at the index, and none where no class stands there
unfoldable pub class_text_at : List PoolEntry → ℕ → Option (List ℕ)
class_text_at pool index = option_map_or (class_text_in pool) (entry_at pool index) None

-- the index names a class of whose bytes P holds
abbrev pub NamesClassBy : (List ℕ → Type 0) → List PoolEntry → ℕ → Type 0
NamesClassBy P pool index = IsSomeAnd (class_text_at pool index) P

-- the index names a class, by a name
abbrev pub NamesAnyClass : List PoolEntry → ℕ → Type 0
NamesAnyClass = NamesClassBy IsModifiedUtf8

-- a class of which there are arrays: it is no array of 255 dimensions (4.4.1)
abbrev pub IsComponent : List ℕ → Type 0
IsComponent bytes = IsModifiedUtf8 bytes × ((d : Desc) → desc d bytes → d.dims ≡ 255 → ⊥)

-- an array's class of so many dimensions or more, and so many are at least 1 (6.5, multianewarray)
abbrev pub IsArrayOf : ℕ → List ℕ → Type 0
IsArrayOf n bytes = (d : Desc) × desc d bytes × (1 ≤ n) × (n ≤ d.dims)

abbrev pub object : List ℕ → Desc
object name = record { dims = 0; base = Object name }

-- the class or the array that the bytes name: a name in internal form, or an array's descriptor
abbrev pub IsClassOf : List ℕ → Desc → Type 0
IsClassOf bytes d = ((d ≡ object bytes) × IsClassText bytes) ⊎ (desc d bytes × (1 ≤ d.dims))

-- ---- fields and methods (4.4.2)

abbrev pub IsFieldRef : List PoolEntry → PoolEntry → Type 0
IsFieldRef pool (FieldRef class member) = NamesAnyClass pool class
IsFieldRef pool e = ⊥

abbrev pub IsMethodRef : List PoolEntry → PoolEntry → Type 0
IsMethodRef pool (MethodRef class member) = NamesAnyClass pool class
IsMethodRef pool e = ⊥

abbrev pub desc_text_in : List PoolEntry → PoolEntry → Option (List ℕ)
desc_text_in pool (NameAndType name desc) = text_at pool desc
desc_text_in pool e = None

-- the bytes of the descriptor that the NameAndType at the index names (4.4.6)
unfoldable pub desc_text_at : List PoolEntry → ℕ → Option (List ℕ)
desc_text_at pool index = option_map_or (desc_text_in pool) (entry_at pool index) None

-- a descriptor of a method whose parameters take, with the receiver, so many slots
abbrev pub IsCounted : ℕ → List ℕ → Type 0
IsCounted count bytes = (m : MethodDesc) × method_desc m bytes × (count ≡ slots m.params + 1)

-- an interface's method whose arguments take so many slots (6.5, invokeinterface)
abbrev pub IsInterfaceRef : List PoolEntry → ℕ → PoolEntry → Type 0
IsInterfaceRef pool count (InterfaceMethodRef class member) = NamesAnyClass pool class × IsSomeAnd (desc_text_at pool member) (IsCounted count)
IsInterfaceRef pool count e = ⊥

-- ---- constants

-- what ldc and ldc_w can name in version 50 (6.5, ldc)
abbrev pub IsSingle : List PoolEntry → PoolEntry → Type 0
IsSingle pool (Integer n) = Unit {0}
IsSingle pool (Float bits) = Unit {0}
IsSingle pool (Str text) = Unit {0}
IsSingle pool (Class name) = Spells IsModifiedUtf8 pool name
IsSingle pool e = ⊥

-- what ldc2_w can name (6.5, ldc2_w)
abbrev pub IsTwofold : PoolEntry → Type 0
IsTwofold (Long n) = Unit {0}
IsTwofold (Double bits) = Unit {0}
IsTwofold e = ⊥

-- of these the profile has the ints and the longs
abbrev pub IsKept : PoolEntry → Type 0
IsKept (Integer n) = Unit {0}
IsKept (Long n) = Unit {0}
IsKept e = ⊥

abbrev pub is_of_long : Kinds → Bool
is_of_long (Letters n J second third) = true
is_of_long kinds = false

abbrev pub IsConstant : List PoolEntry → Bool → PoolEntry → Type 0
IsConstant pool true e = IsTwofold e × IsKept e
IsConstant pool false e = IsSingle pool e × IsKept e

-- ---- the entry that an instruction names by its index, by its family

abbrev pub IsUsed : List PoolEntry → Family → Kinds → ℕ → Type 0
IsUsed pool F8 pushes index = IsSomeAnd (entry_at pool index) (IsConstant pool (is_of_long pushes))
IsUsed pool F30 pushes index = IsSomeAnd (entry_at pool index) (IsFieldRef pool)
IsUsed pool F31 pushes index = IsSomeAnd (entry_at pool index) (IsFieldRef pool)
IsUsed pool F32 pushes index = IsSomeAnd (entry_at pool index) (IsMethodRef pool)
IsUsed pool F33 pushes index = NamesAnyClass pool index
IsUsed pool F34 pushes index = NamesClassBy IsComponent pool index
IsUsed pool F37 pushes index = NamesAnyClass pool index
IsUsed pool family pushes index = ⊥
