-- The names of the attributes that are written, in the constant pool: JVM Specification 4.7. That the first entry is
-- taken where several spell a name is the project's own rule.
use Rattle.std.specs.Prelude.{ℕ, ◌+◌, List, [], ◌∷◌, Bool, false, Option, Some, None, if◌then◌else◌, codes}
use Rattle.std.specs.Str.{bytes_eq}
use Rattle.nr_prog.specs.declared.pool.PoolEntry.{PoolEntry}
use Rattle.nr_prog.specs.declared.pool.PoolEntry.TheVariants.{Utf8}
use Rattle.nr_classwrite.specs.declared.names.AttrNames.{AttrNames}

abbrev pub is_utf8_of : List ℕ → PoolEntry → Bool
is_utf8_of text (Utf8 bytes) = bytes_eq text bytes
is_utf8_of text e = false

-- the first index of an entry that passes the test, where the first entry has the index n
unfoldable pub index_from : ℕ → (PoolEntry → Bool) → List PoolEntry → Option ℕ
index_from n test [] = None
index_from n test (e ∷ es) = if test e then Some n else index_from (n + 1) test es

-- the index of the first Utf8 entry that spells the text
abbrev pub index_in : List PoolEntry → List ℕ → Option ℕ
index_in pool text = index_from 1 (is_utf8_of text) pool

-- the indices of the names, where the pool has them
abbrev pub names_of : List PoolEntry → AttrNames
names_of pool = record { code = index_in pool (codes "Code"); maps = index_in pool (codes "StackMapTable"); constant = index_in pool (codes "ConstantValue") }

abbrev pub or_zero : Option ℕ → ℕ
or_zero None = 0
or_zero (Some index) = index
