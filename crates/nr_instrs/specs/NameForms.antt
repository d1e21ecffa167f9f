-- The same tests by what texts spell, as a class keeps it for each text.
use Rattle.std.specs.Prelude.{ℕ, ◌+◌, List, Bool, false, ◌&&◌, ◌==◌, nat_le, Option, Some, None}
use Rattle.std.specs.Option.{option_map_or}
use Rattle.nr_prog.specs.declared.pool.PoolEntry.{PoolEntry}
use Rattle.nr_prog.specs.declared.pool.PoolEntry.TheVariants.{Class, NameAndType}
use Rattle.nr_prog.specs.declared.text.MethodForm.{MethodForm}
use Rattle.nr_prog.specs.declared.text.TextForm.{TextForm}
use Rattle.nr_prog.specs.Pool.{entry_at}
use Rattle.nr_prog.specs.TextForms.{form_at}

abbrev pub class_form_in : List PoolEntry → PoolEntry → Option TextForm
class_form_in pool (Class name) = form_at pool name
class_form_in pool e = None

-- of the bytes that name the class at the index
unfoldable pub class_form_at : List PoolEntry → ℕ → Option TextForm
class_form_at pool index = option_map_or (class_form_in pool) (entry_at pool index) None

abbrev pub desc_form_in : List PoolEntry → PoolEntry → Option TextForm
desc_form_in pool (NameAndType name desc) = form_at pool desc
desc_form_in pool e = None

-- of the descriptor that the NameAndType at the index names
unfoldable pub desc_form_at : List PoolEntry → ℕ → Option TextForm
desc_form_at pool index = option_map_or (desc_form_in pool) (entry_at pool index) None

-- an array of 255 dimensions
abbrev pub full_in : Option ℕ → Bool
full_in (Some dims) = dims == 255
full_in None = false

-- an array of so many dimensions or more, and so many are at least 1
abbrev pub reaches : ℕ → Option ℕ → Bool
reaches n (Some dims) = nat_le 1 n && nat_le n dims
reaches n None = false

-- a method whose parameters take, with the receiver, so many slots
abbrev pub counts : ℕ → Option MethodForm → Bool
counts count (Some m) = count == m.slots + 1
counts count None = false
