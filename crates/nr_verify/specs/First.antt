-- The first check of a program that fails, and what a fault says of it.
use Rattle.std.specs.Prelude.{◌≡◌, List, [], ◌∷◌, Option, Some, None, IsSomeAnd}
use Rattle.nr_linked.specs.declared.program.method_name.MethodName.{MethodName}
use Rattle.nr_linked.specs.declared.program.tables.MethodInfo.{MethodInfo}
use Rattle.nr_linked.specs.declared.program.tables.ProgramTables.{ProgramTables}
use Rattle.nr_linked.specs.KindTexts.{class_name}
use Rattle.nr_linked.specs.TypingFaults as checks
use Rattle.nr_linked.specs.TypingFaults.{MethodFault as Refusal, first_fault}
use Rattle.nr_linked.specs.WellTyped.{WellTyped}
use Rattle.nr_verify.specs.declared.fault.VerifyFault.{VerifyFault}
use Rattle.nr_verify.specs.declared.fault.VerifyFault.TheVariants.{Op, NoMap, MapMismatch, FallsOff, HandlerMismatch, NoMemory}

abbrev pub or_later : MethodInfo → Option Refusal → Option (MethodInfo × Refusal) → Option (MethodInfo × Refusal)
or_later m (Some f) later = Some (m, f)
or_later m None later = later

-- the first of the methods that a check refuses, with that check
abbrev pub first_refused : ProgramTables → List MethodInfo → Option (MethodInfo × Refusal)
first_refused P [] = None
first_refused P (m ∷ ms) = or_later m (first_fault P m) (first_refused P ms)

-- methods stand by their classes, in the order of loading, and in each class in the order of its file
abbrev pub program_fault : ProgramTables → Option (MethodInfo × Refusal)
program_fault P = first_refused P P.methods

abbrev pub name_of : MethodInfo → MethodName
name_of m = record { name = m.name; desc = m.desc }

-- the fault says that this check of the method fails
abbrev pub IsFaultOf : ProgramTables → MethodInfo → Refusal → VerifyFault → Type 0
IsFaultOf P m (checks.Op at e) v = v ≡ Op (class_name P m.«class») (name_of m) at e
IsFaultOf P m (checks.NoMap at) v = v ≡ NoMap (class_name P m.«class») (name_of m) at
IsFaultOf P m (checks.MapMismatch at) v = v ≡ MapMismatch (class_name P m.«class») (name_of m) at
IsFaultOf P m (checks.FallsOff at) v = v ≡ FallsOff (class_name P m.«class») (name_of m) at
IsFaultOf P m (checks.HandlerMismatch at n) v = v ≡ HandlerMismatch (class_name P m.«class») (name_of m) at n
IsFaultOf P m (checks.Unsuited at) v = ⊥

-- the answer tells the method and its check, or that there was no memory
abbrev pub Tells : ProgramTables → VerifyFault → Option (MethodInfo × Refusal) → Type 0
Tells P NoMemory o = Unit {0}
Tells P v o = IsSomeAnd o (λ r. IsFaultOf P r.0 r.1 v)

-- only a program that isn't well typed is refused
abbrev pub IsRefusal : ProgramTables → VerifyFault → Type 0
IsRefusal P NoMemory = Unit {0}
IsRefusal P v = WellTyped P → ⊥
