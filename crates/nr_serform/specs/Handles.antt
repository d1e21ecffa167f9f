-- Handles: Java Object Serialization Specification 6.4.2. They count up from 7E0000 in the order in which they are given.
use Rattle.std.specs.Prelude.{ℕ, ◌+◌, ◌-◌, List, [], ◌∷◌, Bool, nat_lt, Option, None, slice_get, if◌then◌else◌}
use Rattle.std.specs.List.{list_any, position_or_len}
use Rattle.std.specs.Int.{w32, to_be_bytes}
use Rattle.nr_serform.specs.Entries.{Entry, Class, Text, Object, is_same_entry}

-- what has a handle, in the order in which they were given
abbrev pub Table : Type 0
Table = List Entry

abbrev pub has : Table → Entry → Bool
has table e = list_any (is_same_entry e) table

abbrev pub handle : Table → Entry → ℕ
handle table e = 0x7E0000 + position_or_len (is_same_entry e) table

-- what has the handle n
abbrev pub entry_at : Table → ℕ → Option Entry
entry_at table n = if nat_lt n 0x7E0000 then None else slice_get table (n - 0x7E0000)

-- a reference to what has a handle (6.4.2, prevObject)
abbrev pub handle_text : Table → Entry → List ℕ
handle_text table e = 0x71 ∷ to_be_bytes w32 (handle table e)

-- the nodes that have a handle, in order
abbrev pub objects : Table → List ℕ
objects [] = []
objects (Class k ∷ t) = objects t
objects (Text a ∷ t) = objects t
objects (Object i ∷ t) = i ∷ objects t
