-- A number for each text of a constant pool: the index of the first entry with this text.
use Rattle.std.specs.Prelude.{ℕ, zero, suc, ◌+◌, slice_get, List, [], ◌∷◌, map, Bool, false, Option, Some, None, if◌then◌else◌}
use Rattle.std.specs.Option.{unwrap_or}
use Rattle.std.specs.Str.{bytes_eq}
use Rattle.nr_prog.specs.declared.pool.PoolEntry.{PoolEntry}
use Rattle.nr_prog.specs.declared.pool.PoolEntry.TheVariants.{Utf8}

abbrev pub has_text : List ℕ → PoolEntry → Bool
has_text text (Utf8 bytes) = bytes_eq text bytes
has_text text e = false

-- the index of the first entry with this text, where the first of the entries has this index
unfoldable pub first_from : ℕ → List PoolEntry → List ℕ → Option ℕ
first_from index [] text = None
first_from index (e ∷ es) text = if has_text text e then Some index else first_from (index + 1) es text

-- its number, which is 0 where no entry has it
unfoldable pub number : List PoolEntry → List ℕ → ℕ
number pool text = unwrap_or (first_from 1 pool text) 0

abbrev pub number_in : List PoolEntry → PoolEntry → ℕ
number_in pool (Utf8 bytes) = number pool bytes
number_in pool e = 0

-- the number of each entry's text, by its place
abbrev pub numbers_of : List PoolEntry → List ℕ
numbers_of pool = map (number_in pool) pool

-- the number of the text at an index, by that list
abbrev pub listed_number : List ℕ → ℕ → ℕ
listed_number numbers zero = 0
listed_number numbers (suc place) = unwrap_or (slice_get numbers place) 0
