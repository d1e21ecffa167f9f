-- What words and files come to, and how the program may end then. The project's own rules.
use Rattle.std.specs.Prelude.{◌≡◌, ℕ, List, ◌++◌, ◌⊎◌}
use Rattle.nr_linked.specs.declared.program.tables.ProgramTables.{ProgramTables}
use Rattle.nr_linked.specs.KindTexts.{class_name}
use Rattle.nr_run.specs.declared.ran.Ran.{Ran}
use Rattle.nr_run.specs.declared.ran.RunEnd.{RunEnd}
use Rattle.nr_run.specs.declared.ran.RunEnd.TheVariants as runs
use Rattle.nr_run.specs.Runs.{IsText, RunEnds, RunStops}
use Rattle.nr_cli.specs.Words.{Command}
use Rattle.nr_cli.specs.declared.ending.End.{End}
use Rattle.nr_cli.specs.declared.ending.End.TheVariants.{Folder, Run, Memory}
use Rattle.nr_cli.specs.declared.ending.Stop.{Stop}
use Rattle.nr_cli.specs.declared.ending.Stop.TheVariants as stops

-- an end, or a run of this method of a program, within the budget and on the ints of the command
pub data Due : Type 0 where
  Settled : End → Due
  MainRun : ProgramTables → ℕ → Command → Due

abbrev pub stop_of : ProgramTables → ℕ → RunEnd → Stop
stop_of P budget (runs.Returned n) = stops.Returned n
stop_of P budget (runs.Thrown c) = stops.Thrown (class_name P c)
stop_of P budget runs.Budget = stops.Budget budget
stop_of P budget (runs.Limit limit) = stops.Limit limit
stop_of P budget runs.NoMemory = stops.Memory

abbrev pub run_end : ProgramTables → ℕ → Ran → End
run_end P budget r = Run r.printed (stop_of P budget r.end)

-- The end is the due one, or that of the outcome of the due run.
abbrev pub IsEndOf : Due → End → Type 0
IsEndOf (Settled due) end = end ≡ due
IsEndOf (MainRun P m c) end = (r : Ran) × RunEnds P m c.ints c.budget r × (end ≡ run_end P c.budget r)

-- Memory ran out on the way of the due run.
abbrev pub IsCutOff : Due → End → Type 0
IsCutOff (Settled due) end = ⊥
IsCutOff (MainRun P m c) end = (printed : List ℕ) × RunStops P m c.ints c.budget printed × (end ≡ Run printed stops.Memory)

-- The program ends as is due, or memory ran out, before a run or on its way.
abbrev pub Comes : Due → End → Type 0
Comes due end = (end ≡ Memory) ⊎ (IsEndOf due end ⊎ IsCutOff due end)

-- the same, or the folder failed
abbrev pub MayEnd : Type 0 → Due → End → Type 0
MayEnd folder_failed due end = ((end ≡ Folder) × folder_failed) ⊎ Comes due end

-- the text of the due run, on one machine without a budget and limits, is added
abbrev pub AddsText : Due → List ℕ → List ℕ → Type 0
AddsText (Settled due) old new = ⊥
AddsText (MainRun P m c) old new = (text : List ℕ) × IsText P m c.ints text × (new ≡ old ++ text)
