-- Attributes as text: JVM Specification 4.7.
use Rattle.std.specs.Prelude.{◌≡◌, ℕ, ◌<◌, ◌^◌, List, ◌++◌, length, Bool, true, false, Option, Some, None}
use Rattle.std.specs.Int.{w16, w32, to_be_bytes}
use Rattle.std.specs.Str.{bytes_eq}
use Rattle.nr_base.specs.Grammar.{Grammar}
use Rattle.nr_prog.specs.declared.pool.PoolEntry.{PoolEntry}
use Rattle.nr_prog.specs.Members.{spells}

-- whether the index names this text
abbrev pub is_named : List PoolEntry → List ℕ → ℕ → Bool
is_named pool name index = spells (bytes_eq name) pool index

-- u2 attribute_name_index, u4 attribute_length, and the contents
pub record IsAttribute (name : ℕ) (contents : List ℕ) (text : List ℕ) : Type 0 where
  pub name_fits : name < 2 ^ 16
  pub length_fits : length contents < 2 ^ 32
  pub whole : text ≡ to_be_bytes w16 name ++ (to_be_bytes w32 (length contents) ++ contents)

-- an attribute of the name that is read, whose contents are a text of the value
pub record IsRead {A : Type 0} (pool : List PoolEntry) (known : List ℕ) (inside : A → List ℕ → Type 0) (x : A) (text : List ℕ) : Type 0 where
  pub name : ℕ
  pub contents : List ℕ
  pub attribute : IsAttribute name contents text
  pub named : is_named pool known name ≡ true
  pub value : inside x contents

-- an attribute of any other name, or of an index that names none: it is skipped by its length (4.7.1)
pub record IsSkipped (pool : List PoolEntry) (known : List ℕ) (text : List ℕ) : Type 0 where
  pub name : ℕ
  pub contents : List ℕ
  pub attribute : IsAttribute name contents text
  pub other : is_named pool known name ≡ false

-- One attribute, with the value of those before it and with the value then. It is the one that is read, and none of
-- its name stood before (4.7.2, 4.7.3, 4.7.4), or it is skipped and changes nothing.
abbrev pub attribute : {A : Type 0} → List PoolEntry → List ℕ → Grammar A → Option A → Grammar (Option A)
attribute pool known inside None None text = IsSkipped pool known text
attribute pool known inside None (Some x) text = IsRead pool known inside x text
attribute pool known inside (Some x) (Some y) text = (y ≡ x) × IsSkipped pool known text
attribute pool known inside (Some x) None text = ⊥

-- an attribute whose name isn't looked at
pub record IsIgnored (text : List ℕ) : Type 0 where
  pub name : ℕ
  pub contents : List ℕ
  pub attribute : IsAttribute name contents text
