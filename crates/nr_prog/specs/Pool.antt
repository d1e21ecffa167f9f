-- The constant pool: JVM Specification 4.4.
use Rattle.std.specs.Prelude.{ℕ, zero, suc, ◌+◌, ◌-◌, List, [], length, Option, Some, None, Bool, true, false, ◌&&◌, slice_get}
use Rattle.std.specs.Option.{option_map_or}
use Rattle.nr_base.specs.Grammar.{IsBytes}
use Rattle.nr_prog.specs.declared.pool.PoolEntry.{PoolEntry}
use Rattle.nr_prog.specs.declared.pool.PoolEntry.TheVariants.{Utf8, Integer, Long, Double, Class, Str, FieldRef, MethodRef, InterfaceMethodRef, NameAndType, Unused}

-- the entry at an index; the first has index 1
abbrev pub entry_at : List PoolEntry → ℕ → Option PoolEntry
entry_at pool zero = None
entry_at pool (suc i) = slice_get pool i

-- whether an entry stands at the index and passes the test
abbrev pub names : (PoolEntry → Bool) → List PoolEntry → ℕ → Bool
names test pool index = option_map_or test (entry_at pool index) false

-- ---- the tags

abbrev pub is_utf8 : PoolEntry → Bool
is_utf8 (Utf8 bytes) = true
is_utf8 e = false

abbrev pub is_integer : PoolEntry → Bool
is_integer (Integer n) = true
is_integer e = false

abbrev pub is_long : PoolEntry → Bool
is_long (Long n) = true
is_long e = false

abbrev pub is_string : PoolEntry → Bool
is_string (Str text) = true
is_string e = false

abbrev pub is_class : PoolEntry → Bool
is_class (Class name) = true
is_class e = false

abbrev pub is_name_and_type : PoolEntry → Bool
is_name_and_type (NameAndType name desc) = true
is_name_and_type e = false

-- a long or a double, which takes two places (4.4.5)
abbrev pub is_wide : PoolEntry → Bool
is_wide (Long n) = true
is_wide (Double bits) = true
is_wide e = false

abbrev pub is_unused : PoolEntry → Bool
is_unused Unused = true
is_unused e = false

-- What the entry at an index owes: after a long or a double the next place is unused, and no other place is; and
-- the entry's own indices name entries of the tags that 4.4.1 to 4.4.6 give.
unfoldable pub is_entry_formed : List PoolEntry → ℕ → PoolEntry → Bool
is_entry_formed pool index (Long n) = names is_unused pool (index + 1)
is_entry_formed pool index (Double bits) = names is_unused pool (index + 1)
is_entry_formed pool index Unused = names is_wide pool (index - 1)
is_entry_formed pool index (Class name) = names is_utf8 pool name
is_entry_formed pool index (Str text) = names is_utf8 pool text
is_entry_formed pool index (FieldRef class member) = names is_class pool class && names is_name_and_type pool member
is_entry_formed pool index (MethodRef class member) = names is_class pool class && names is_name_and_type pool member
is_entry_formed pool index (InterfaceMethodRef class member) = names is_class pool class && names is_name_and_type pool member
is_entry_formed pool index (NameAndType name desc) = names is_utf8 pool name && names is_utf8 pool desc
is_entry_formed pool index e = true

-- ---- texts

abbrev pub text_in : PoolEntry → Option (List ℕ)
text_in (Utf8 bytes) = Some bytes
text_in e = None

-- the bytes of the Utf8 entry at the index, and none where no such entry stands there
unfoldable pub text_at : List PoolEntry → ℕ → Option (List ℕ)
text_at pool index = option_map_or text_in (entry_at pool index) None

-- the bytes of the entry's text, and none where it has no text
abbrev pub bytes_in : PoolEntry → List ℕ
bytes_in (Utf8 bytes) = bytes
bytes_in e = []

-- the entry's text is one of bytes
abbrev pub IsText : PoolEntry → Type 0
IsText e = IsBytes (bytes_in e)

-- how many bytes the entry's text has
abbrev pub text_len : PoolEntry → ℕ
text_len (Utf8 bytes) = length bytes
text_len e = 0
