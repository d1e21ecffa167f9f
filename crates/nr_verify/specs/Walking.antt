-- How calls that walk over the code of a method answer as its checks do.
use Rattle.std.specs.Prelude.{◌≡◌, List, [], ◌∷◌, Bool, true, false, ◌&&◌, Option, Some, None, Result, Ok, Err}
use Rattle.nr_prog.specs.declared.body.instruction.Instr.{Instr}
use Rattle.nr_prog.specs.Offsets.{IsAscendingBy}
use Rattle.nr_linked.specs.declared.program.tables.MethodInfo.{MethodInfo}
use Rattle.nr_linked.specs.declared.program.tables.ProgramTables.{ProgramTables}
use Rattle.nr_linked.specs.declared.program.tables.Resolved.{Resolved}
use Rattle.nr_linked.specs.Suited.{is_suited}
use Rattle.nr_linked.specs.TypingFaults as checks
use Rattle.nr_linked.specs.TypingFaults.{MethodFault as Refusal, Passed, Passes, Fails}
use Rattle.nr_linked.specs.TypingFrames.{TypeFrame}
use Rattle.nr_verify.specs.declared.fault.MethodFault.{MethodFault}
use Rattle.nr_verify.specs.declared.fault.MethodFault.TheVariants.{Op, NoMap, MapMismatch, FallsOff, HandlerMismatch, NoMemory}

-- the checks so far answered this; what follows is next
abbrev pub IsStep : {A : Type 0} → Result A MethodFault → (A → Passed) → Passed → Type 0
IsStep (Ok a) next p = p ≡ next a
IsStep (Err NoMemory) next p = Unit {0}
IsStep (Err (Op at e)) next p = p ≡ Fails (checks.Op at e)
IsStep (Err (NoMap at)) next p = p ≡ Fails (checks.NoMap at)
IsStep (Err (MapMismatch at)) next p = p ≡ Fails (checks.MapMismatch at)
IsStep (Err (FallsOff at)) next p = p ≡ Fails (checks.FallsOff at)
IsStep (Err (HandlerMismatch at n)) next p = p ≡ Fails (checks.HandlerMismatch at n)

-- the frame, where control comes with one
abbrev pub coming : Bool → TypeFrame → Option TypeFrame
coming true f = Some f
coming false f = None

-- the first check that fails
abbrev pub IsFirst : {A : Type 0} → Result A MethodFault → Option Refusal → Type 0
IsFirst (Ok a) o = o ≡ None
IsFirst (Err NoMemory) o = Unit {0}
IsFirst (Err (Op at e)) o = o ≡ Some (checks.Op at e)
IsFirst (Err (NoMap at)) o = o ≡ Some (checks.NoMap at)
IsFirst (Err (MapMismatch at)) o = o ≡ Some (checks.MapMismatch at)
IsFirst (Err (FallsOff at)) o = o ≡ Some (checks.FallsOff at)
IsFirst (Err (HandlerMismatch at n)) o = o ≡ Some (checks.HandlerMismatch at n)

-- the frame maps of the method stand at rising offsets
abbrev pub HasMapsInOrder : MethodInfo → Type 0
HasMapsInOrder m = IsAscendingBy (λ e. e.0) m.maps

-- something was found for each instruction, and it and the operands are those of its row
abbrev pub are_suited : ProgramTables → List Instr → List Resolved → Bool
are_suited P [] rs = true
are_suited P (i ∷ is) [] = false
are_suited P (i ∷ is) (r ∷ rs) = is_suited P (record { instr = i; resolved = r; next = None }) && are_suited P is rs
