-- How the code of a program's methods is laid out (JVM Specification 4.7.3 and 4.7.4).
use Rattle.std.specs.Prelude.{◌≡◌, ℕ, ◌+◌, ◌≤◌, List, [], ◌∷◌, length, Some, IsTrue}
use Rattle.nr_prog.specs.declared.body.instruction.Instr.{Instr}
use Rattle.nr_prog.specs.declared.body.whole.Body.{Body}
use Rattle.nr_linked.specs.declared.program.tables.MethodInfo.{MethodInfo}
use Rattle.nr_linked.specs.declared.program.tables.ProgramTables.{ProgramTables}
use Rattle.nr_linked.specs.declared.program.types.VFrame.{VFrame}
use Rattle.nr_prog.specs.BodyStarts.{is_start}
use Rattle.nr_prog.specs.Offsets.{StandInOrder}
use Rattle.nr_linked.specs.Programs.{method_at}

-- frame maps stand where instructions start, the first at the offset or above it, and each other above the one before it
abbrev pub MapsStand : List Instr → ℕ → List (ℕ × VFrame) → Type 0
MapsStand is at [] = Unit {0}
MapsStand is at (e ∷ es) = (at ≤ e.0) × IsTrue (is_start is e.0) × MapsStand is (e.0 + 1) es

-- the method with this code
pub record MethodLaidOut (m : MethodInfo) (body : Body) : Type 0 where
  -- there is a first instruction, which stands at offset 0, and the others rise
  pub order : StandInOrder body.instrs
  -- something was found for each instruction
  pub one_each : length m.resolved ≡ length body.instrs
  pub maps : MapsStand body.instrs 0 m.maps

-- so is the code of each method of the program
abbrev pub IsLaidOut : ProgramTables → Type 0
IsLaidOut P = (n : ℕ) (m : MethodInfo) (body : Body) → method_at P n ≡ Some m → m.body ≡ Some body → MethodLaidOut m body

-- the same of the instructions alone
abbrev pub CodeInOrder : ProgramTables → Type 0
CodeInOrder P = (n : ℕ) (m : MethodInfo) (body : Body) → method_at P n ≡ Some m → m.body ≡ Some body → StandInOrder body.instrs
