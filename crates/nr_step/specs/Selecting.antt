-- What a memory of selections means.
use Rattle.std.specs.Prelude.{◌≡◌, All, length}
use Rattle.nr_linked.specs.declared.program.tables.ProgramTables.{ProgramTables}
use Rattle.nr_linked.specs.Selection.{selected}
use Rattle.nr_step.specs.declared.selections.Selected.{Selected}
use Rattle.nr_step.specs.declared.selections.Selections.TheInside.{Inside}

abbrev pub program_of : Inside → ProgramTables
program_of a = a.program.now

-- what is kept is what the program selects
abbrev pub IsSelected : ProgramTables → Selected → Type 0
IsSelected P s = s.selected ≡ selected P s.method s.class

pub record AreSelections (a : Inside) : Type 0 where
  pub kept : All (IsSelected a.program.now) a.kept.items
  pub places : length a.kept.items ≡ 1024
