-- Programs of which no check fails.
use Rattle.std.specs.Prelude.{◌≡◌, ℕ, Some, None}
use Rattle.nr_linked.specs.declared.program.tables.MethodInfo.{MethodInfo}
use Rattle.nr_linked.specs.declared.program.tables.ProgramTables.{ProgramTables}
use Rattle.nr_linked.specs.Programs.{method_at}
use Rattle.nr_linked.specs.TypingFaults.{first_fault}

-- no check of any method fails
abbrev pub HasNoFault : ProgramTables → Type 0
HasNoFault P = (n : ℕ) (m : MethodInfo) → method_at P n ≡ Some m → first_fault P m ≡ None
