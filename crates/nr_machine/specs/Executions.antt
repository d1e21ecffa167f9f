-- A machine in code, as its callers see it: a run of a program, and how far it has come.
use Rattle.std.specs.Prelude.{◌≡◌, ℕ, ◌<◌, List, Option, None}
use Rattle.nr_linked.specs.declared.program.kind.Kind.{Kind}
use Rattle.nr_linked.specs.declared.program.tables.ProgramTables.{ProgramTables}
use Rattle.nr_linked.specs.WellTyped.{WellTyped}
use Rattle.nr_model.specs.declared.value.Value.{Value}
use Rattle.nr_model.specs.Heaps.{Heap}
use Rattle.nr_model.specs.States.{Control, State}
use Rattle.nr_model.specs.Asks.{Asks}
use Rattle.nr_model.specs.Locals.{Begins}
use Rattle.nr_model.specs.Outcomes.{is_too_deep}
use Rattle.nr_typed.specs.Standing.{StandsIn}
use Rattle.nr_machine.specs.declared.answer.Turn.{Turn}

pub record Execution : Type 0 where
  pub program : ProgramTables
  -- the class whose remote methods it asks for, if it asks for any
  pub service : Option ℕ
  pub budget : ℕ
  -- how many steps it has made
  pub steps : ℕ
  pub control : Control
  pub printed : List ℕ
  -- the last answer of a turn, once one has given it; from then on each turn gives it again
  pub last : Option Turn

-- its state, in a heap
abbrev pub state_in : Heap → Execution → State
state_in h x = record { heap = h; control = x.control; printed = x.printed }

-- it stands in the heap: the frames hold values of the types of the well-typed program's frames. Its first method has
-- the result.
abbrev pub Stands : Option Kind → Heap → Execution → Type 0
Stands result h x = (typed : WellTyped x.program) × StandsIn x.program typed.frames result (state_in h x)

-- it stands at a call of a remote method, and waits for the answer; the heap in which it does is no matter
pub record IsAsking (x : Execution) : Type 0 where
  pub heap : Heap
  pub asks : Asks x.program x.service (state_in heap x)
  pub going : x.last ≡ None
  pub in_budget : x.steps < x.budget

-- at the start of a call of method m, with its arguments, the last first
pub record Starts (P : ProgramTables) (service : Option ℕ) (h : Heap) (m : ℕ) (args : List Value) (budget : ℕ)
    (x : Execution) : Type 0 where
  pub begins : Begins P h m args (state_in h x)
  pub rest : x ≡ record { program = P; service = service; budget = budget; steps = 0; control = x.control; printed = x.printed; last = None }
