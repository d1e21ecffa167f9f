-- Answers of remote calls that belong to what was called (the project's own).
use Rattle.std.specs.Prelude.{◌≡◌, ℕ, List, [], ◌∷◌, Option, None}
use Rattle.std.specs.FinMap.{get}
use Rattle.nr_linked.specs.declared.program.kind.Kind.{Kind}
use Rattle.nr_linked.specs.declared.program.tables.ProgramTables.{ProgramTables}
use Rattle.nr_linked.specs.Programs.{result_of}
use Rattle.nr_model.specs.Heaps.{Heap}
use Rattle.nr_model.specs.States.{State}
use Rattle.nr_model.specs.Asks.{Asks, asked_args, Answer, Answered, Faulted, Entry}
use Rattle.nr_model.specs.TypedHeaps.{TypedHeap, KeepsNames}
use Rattle.nr_model.specs.Belonging.{IsResult}

-- What is answered to a call with this result, from the heap before: a typed heap that keeps the names with their kinds,
-- and a value that is the result's; or a fault, with a new name.
abbrev pub IsTypedAnswer : ProgramTables → Heap → Option Kind → Answer → Type 0
IsTypedAnswer P before result (Answered after value printed) =
    TypedHeap P after × KeepsNames before after × IsResult P after result value
IsTypedAnswer P before result (Faulted name) = get before name ≡ None

-- the call of the entry's method was answered so
abbrev pub IsTypedEntry : ProgramTables → Entry → Type 0
IsTypedEntry P e = IsTypedAnswer P e.before (result_of P e.method) e.answer

abbrev pub EachTyped : ProgramTables → List Entry → Type 0
EachTyped P [] = Unit {0}
EachTyped P (e ∷ es) = IsTypedEntry P e × EachTyped P es

-- the call for which the state asks, with this answer
abbrev pub entry_of : {P : ProgramTables} {service : Option ℕ} {s : State} → Asks P service s → Answer → Entry
entry_of {s = s} a answer = record { method = a.method; args = asked_args a; before = s.heap; answer = answer }
