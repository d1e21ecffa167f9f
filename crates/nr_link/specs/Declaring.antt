-- The class that declares a method.
use Rattle.std.specs.Prelude.{ℕ, List, Bool, is_some}
use Rattle.nr_linked.specs.declared.program.tables.ProgramTables.{ProgramTables}
use Rattle.nr_linked.specs.Linked.{declared}

-- the class declares a method of this name and descriptor
abbrev pub declares_method : ProgramTables → List ℕ → List ℕ → ℕ → Bool
declares_method P name desc c = is_some (declared P c name desc)
