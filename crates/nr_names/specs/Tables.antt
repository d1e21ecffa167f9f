-- Tables of members by their keys.
use Rattle.std.specs.Prelude.{◌≡◌, ℕ, List, Bool, false, ◌&&◌, ◌==◌, Option, Some, None}
use Rattle.std.specs.List.{position}
use Rattle.indexmap.specs.IndexMap.{get}
use Rattle.nr_names.specs.declared.table.Key.{Key}
use Rattle.nr_names.specs.declared.table.Table.{Table}
use Rattle.nr_names.specs.Numbers.{number_in}

abbrev pub same_key : Key → Key → Bool
same_key k l = k.holder == l.holder && (k.name == l.name && k.desc == l.desc)

abbrev pub has_key : Key → Option Key → Bool
has_key k None = false
has_key k (Some l) = same_key k l

-- the place of the member of the key, where the table has one
abbrev pub place_in : Table → Key → Option ℕ
place_in t k = get same_key t.places k

-- the table has, for each key, the place of the first of these members that has it
abbrev pub Lists : Table → List (Option Key) → Type 0
Lists t keys = (k : Key) → place_in t k ≡ position (has_key k) keys

-- ---- keys

-- of a member of the class with this number, where its name and its descriptor have numbers
abbrev pub key_by : ℕ → Option ℕ → Option ℕ → Option Key
key_by holder None desc = None
key_by holder (Some name) None = None
key_by holder (Some name) (Some desc) = Some (record { holder = holder; name = name; desc = desc })

abbrev pub key_of : List (List ℕ) → ℕ → List ℕ → List ℕ → Option Key
key_of known holder name desc = key_by holder (number_in known name) (number_in known desc)
