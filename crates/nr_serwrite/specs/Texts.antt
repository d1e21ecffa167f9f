-- What is written of the description of a class.
use Rattle.std.specs.Prelude.{◌≡◌, ℕ, ◌<◌, ◌^◌, List, ◌++◌, length, true, Option, if◌then◌else◌}
use Rattle.std.specs.Option.{option_map_or, IfSome}
use Rattle.nr_linked.specs.declared.program.kind.Kind.{Kind}
use Rattle.nr_linked.specs.declared.program.tables.ProgramTables.{ProgramTables}
use Rattle.nr_linked.specs.Kinds.{class_in, is_array}
use Rattle.nr_linked.specs.KindTexts.{kind_text}
use Rattle.nr_serform.specs.ClassNumbers.{class_number}
use Rattle.nr_serform.specs.Descriptions.{Describes}
use Rattle.nr_serform.specs.Handles.{Table}

-- the number that is written for a class: 0 for an array
abbrev pub written_number : ProgramTables → Kind → ℕ
written_number P kind = if is_array kind then 0 else option_map_or (class_number P) (class_in kind.base) 0

-- the descriptor of an array fits a count of bytes in a stream
abbrev pub HasShortName : ProgramTables → Kind → Type 0
HasShortName P kind = is_array kind ≡ true → length (kind_text P kind) < 2 ^ 16

-- The description of a class was written behind `out`, with the handles that it gives.
pub record IsDescribed (P : ProgramTables) (kind : Option Kind) (table : Table) (out : List ℕ) (table' : Table) (out' : List ℕ) : Type 0 where
  pub text : List ℕ
  pub written : out' ≡ out ++ text
  pub described : Describes P true kind table text table'

-- On the way up from a class the description was written behind `out` as far as the one that is next: with a text of that
-- one it is a text of the class.
pub record Climbs (P : ProgramTables) (kind : Option Kind) (table : Table) (out : List ℕ) (next : Option Kind) (table' : Table) (out' : List ℕ) : Type 0 where
  pub text : List ℕ
  pub written : out' ≡ out ++ text
  pub describes : (rest : List ℕ) (after : Table) → Describes P true next table' rest after → Describes P true kind table (text ++ rest) after
  pub short : IfSome next (HasShortName P)
