-- Texts in the order in which they came, each once.
use Rattle.std.specs.Prelude.{◌≡◌, ◌<◌, ℕ, List, length, map, take, false, slice_index_or}
use Rattle.std.specs.List.{list_any}
use Rattle.std.specs.Str.{bytes_eq}
use Rattle.std.specs.Borrow.{Bor}
use Rattle.nr_linked.specs.declared.program.tables.ProgramTables.{ProgramTables}
use Rattle.indexmap.specs.IndexSet.{IndexSet}
use Rattle.nr_names.specs.Numbers.{texts}

-- the set has the names of the program's classes, by their numbers
abbrev pub IsNamesOf : {S : Type 0} → ProgramTables → IndexSet (Bor (List ℕ)) S → Type 0
IsNamesOf P names = texts names ≡ map (λ e. e.name) P.classes

-- each of the texts stands once among them
abbrev pub AreApart : List (List ℕ) → Type 0
AreApart names =
    (k : ℕ) (d : List ℕ) → k < length names → list_any (bytes_eq (slice_index_or names k d)) (take k names) ≡ false
