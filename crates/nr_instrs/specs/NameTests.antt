-- What indices of the constant pool name, as tests by reading: they tell the first fault.
use Rattle.std.specs.Prelude.{ℕ, ◌+◌, List, Bool, true, false, not, ◌&&◌, ◌==◌, ◌||◌, nat_le, Option, None, Result, Ok, Err, if◌then◌else◌}
use Rattle.std.specs.Option.{option_map_or}
use Rattle.nr_base.specs.Names.{is_name}
use Rattle.nr_base.specs.Descs.{slots}
use Rattle.nr_base.specs.DescReading.{desc_of, method_of}
use Rattle.nr_base.specs.declared.desc.fault.DescFault.{DescFault}
use Rattle.nr_base.specs.declared.desc.types.Desc.{Desc}
use Rattle.nr_base.specs.declared.desc.types.MethodDesc.{MethodDesc}
use Rattle.nr_optable.specs.declared.table.Family.{Family}
use Rattle.nr_optable.specs.declared.table.Family.TheVariants.{F8, F30, F31, F32, F33, F34, F37}
use Rattle.nr_optable.specs.declared.table.Kinds.{Kinds}
use Rattle.nr_prog.specs.declared.pool.PoolEntry.{PoolEntry}
use Rattle.nr_prog.specs.declared.pool.PoolEntry.TheVariants.{Integer, Float, Class, Str, FieldRef, MethodRef, InterfaceMethodRef}
use Rattle.nr_prog.specs.Pool.{names, is_integer, is_long, is_wide}
use Rattle.nr_prog.specs.Members.{spells}
use Rattle.nr_prog.specs.TextForms.{class_desc}
use Rattle.nr_prog.specs.BodyNames.{class_text_at, desc_text_at, is_of_long}

-- ---- classes

-- whether the index names a class whose bytes pass the test
unfoldable pub names_class_by : (List ℕ → Bool) → List PoolEntry → ℕ → Bool
names_class_by test pool index = option_map_or test (class_text_at pool index) false

-- whether the index names a class whose bytes are modified UTF-8 without U+0000
abbrev pub names_class : List PoolEntry → ℕ → Bool
names_class = names_class_by is_name

abbrev pub is_full : Result Desc DescFault → Bool
is_full (Ok d) = d.dims == 255
is_full (Err e) = false

-- a class of which there are arrays: they have 255 dimensions at most
unfoldable pub is_component : List ℕ → Bool
is_component bytes = is_name bytes && not (is_full (desc_of bytes))

abbrev pub has_dims : ℕ → Result Desc DescFault → Bool
has_dims n (Ok d) = nat_le 1 n && nat_le n d.dims
has_dims n (Err e) = false

-- an array's class of so many dimensions or more, and so many are at least 1
unfoldable pub is_array : ℕ → List ℕ → Bool
is_array n bytes = has_dims n (desc_of bytes)

-- ---- fields and methods

abbrev pub is_field_ref : List PoolEntry → PoolEntry → Bool
is_field_ref pool (FieldRef class member) = names_class pool class
is_field_ref pool e = false

abbrev pub is_method_ref : List PoolEntry → PoolEntry → Bool
is_method_ref pool (MethodRef class member) = names_class pool class
is_method_ref pool e = false

abbrev pub takes : ℕ → Result MethodDesc DescFault → Bool
takes count (Ok m) = count == slots m.params + 1
takes count (Err e) = false

-- a descriptor of a method whose parameters take, with the receiver, so many slots
unfoldable pub is_counted : ℕ → List ℕ → Bool
is_counted count bytes = takes count (method_of bytes)

-- an interface's method whose arguments take so many slots
abbrev pub is_interface_ref : List PoolEntry → ℕ → PoolEntry → Bool
is_interface_ref pool count (InterfaceMethodRef class member) =
    names_class pool class && option_map_or (is_counted count) (desc_text_at pool member) false
is_interface_ref pool count e = false

-- ---- constants

-- the entries that ldc and ldc_w can name in version 50
abbrev pub is_single : List PoolEntry → PoolEntry → Bool
is_single pool (Integer n) = true
is_single pool (Float bits) = true
is_single pool (Str text) = true
is_single pool (Class name) = spells is_name pool name
is_single pool e = false

-- ---- the entry that an instruction can name, by its family

unfoldable pub is_used : List PoolEntry → Family → Kinds → ℕ → Bool
is_used pool F8 pushes index = if is_of_long pushes then names is_wide pool index else names (is_single pool) pool index
is_used pool F30 pushes index = names (is_field_ref pool) pool index
is_used pool F31 pushes index = names (is_field_ref pool) pool index
is_used pool F32 pushes index = names (is_method_ref pool) pool index
is_used pool F33 pushes index = names_class pool index
is_used pool F34 pushes index = names_class_by is_component pool index
is_used pool F37 pushes index = names_class pool index
is_used pool family pushes index = false

-- whether the profile has such a constant
unfoldable pub is_kept : List PoolEntry → Family → ℕ → Bool
is_kept pool F8 index = names (λ e. is_integer e || is_long e) pool index
is_kept pool family index = true

-- ---- classes as types

-- the class or the array that the index names
unfoldable pub class_desc_at : List PoolEntry → ℕ → Option Desc
class_desc_at pool index = option_map_or class_desc (class_text_at pool index) None
