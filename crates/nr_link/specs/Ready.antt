-- What the search for members takes of the tables, and of what is kept beside them.
use Rattle.std.specs.Prelude.{◌≡◌, ℕ, ◌<◌, ◌^◌, List, Bool, length}
use Rattle.std.specs.Borrow.{Bor}
use Rattle.nr_linked.specs.declared.program.tables.ProgramTables.{ProgramTables}
use Rattle.nr_linked.specs.Slots.{slots_of}
use Rattle.nr_linkrules.specs.Reaches.{HasSteps, rows_of}
use Rattle.nr_link.specs.Seen.{IsNamesOf}
use Rattle.indexmap.specs.IndexSet.{IndexSet}

-- the names of the classes by their numbers, and the rows of what stands above each; the numbers of classes, of methods
-- and of slots fit 32 bits
pub record IsReady {S : Type 0} (P : ProgramTables) (names : IndexSet (Bor (List ℕ)) S) (rows : List (List Bool)) : Type 0 where
  pub named : IsNamesOf P names
  pub closed : rows ≡ rows_of P (length P.classes)
  pub steps : HasSteps P
  pub few_classes : length P.classes < 2 ^ 32
  pub few_methods : length P.methods < 2 ^ 32
  pub few_slots : (c : ℕ) → length (slots_of P c) < 2 ^ 32
