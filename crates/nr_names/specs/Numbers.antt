-- Numbers of texts: the places where they stand in a list in which each stands once.
use Rattle.std.specs.Prelude.{ℕ, zero, suc, List, map, Option, Some, None, slice_get}
use Rattle.std.specs.Borrow.{Bor}
use Rattle.std.specs.List.{position}
use Rattle.std.specs.Option.{option_and_then}
use Rattle.std.specs.Str.{bytes_eq}
use Rattle.nr_prog.specs.declared.pool.PoolEntry.{PoolEntry}
use Rattle.nr_prog.specs.Pool.{text_in}
use Rattle.indexmap.specs.IndexSet.{IndexSet}

-- the texts of the set, in its order
unfoldable pub texts : {S : Type 0} → IndexSet (Bor (List ℕ)) S → List (List ℕ)
texts set = map (λ k. k.now) set.keys

-- the number of the text
abbrev pub number_in : List (List ℕ) → List ℕ → Option ℕ
number_in known text = position (λ t. bytes_eq t text) known

-- that of the entry's text, where it has one
abbrev pub number_of : List (List ℕ) → PoolEntry → Option ℕ
number_of known e = option_and_then (number_in known) (text_in e)

-- of each entry of a constant pool, by its place
abbrev pub numbers_of : List (List ℕ) → List PoolEntry → List (Option ℕ)
numbers_of known pool = map (number_of known) pool

-- ---- lists by the places of a constant pool

abbrev pub given : {Y : Type 0} → Option (Option Y) → Option Y
given None = None
given (Some y) = y

-- what is listed for the entry at an index, which counts from 1
abbrev pub listed : {Y : Type 0} → List (Option Y) → ℕ → Option Y
listed items zero = None
listed items (suc place) = given (slice_get items place)
