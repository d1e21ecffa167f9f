-- The same state with other frames below and other output before it.
use Rattle.std.specs.Prelude.{ℕ, List, ◌++◌, Option, Some, None}
use Rattle.nr_linked.specs.declared.program.tables.ProgramTables.{ProgramTables}
use Rattle.nr_model.specs.States.{Frame, Control, Running, Returned, Thrown, State}
use Rattle.nr_model.specs.Steps.{given}

-- what the frames are where others stand below; a result goes to the topmost of those
abbrev pub over : ProgramTables → List Frame → Control → Option Control
over P below (Running fs) = Some (Running (fs ++ below))
over P below (Returned v) = given P v below
over P below (Thrown v) = None

abbrev pub with_front : List ℕ → Control → State → State
with_front front c s = record { heap = s.heap; control = c; printed = front ++ s.printed }
