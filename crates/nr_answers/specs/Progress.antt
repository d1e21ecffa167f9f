-- How far the job of a request has come after some of its steps (the project's own).
use Rattle.std.specs.Prelude.{◌≡◌, ◌⊎◌, ℕ, suc, ◌<◌, false, List, [], None}
use Rattle.nr_linked.specs.declared.program.tables.ProgramTables.{ProgramTables}
use Rattle.nr_model.specs.declared.value.Value.{Value}
use Rattle.nr_model.specs.Heaps.{Heap}
use Rattle.nr_model.specs.LimitedRuns.{LimitedRun}
use Rattle.nr_model.specs.Locals.{Begins}
use Rattle.nr_model.specs.Outcomes.{is_too_deep}
use Rattle.nr_model.specs.Printed.{CallPrintedAfter}
use Rattle.nr_model.specs.States.{IsEnd, State}
use Rattle.nr_message.specs.declared.serve_fault.ServeFault.{ServeFault}
use Rattle.nr_answers.specs.Planted.{Entered}
use Rattle.nr_answers.specs.Requests.{Accepted, RefusedAs}

-- The request was accepted, and after k steps, none of which passed a limit, its run goes on: it stands at no end, and its
-- budget isn't spent.
pub record RunsOn (P : ProgramTables) (service : ℕ) (body : List ℕ) (k : ℕ) (state : State) : Type 0 where
  pub accepted : Accepted P service body
  pub before : Heap
  pub args : List Value
  pub entered : Entered P accepted before args
  pub first : State
  pub begins : Begins P before accepted.request.method args first
  pub fits : is_too_deep P first.control ≡ false
  pub made : LimitedRun P None first [] k state
  pub no_end : IsEnd state.control → ⊥
  pub within : k < accepted.request.call.budget

-- its job has more than k steps
abbrev pub HasMore : ProgramTables → ℕ → List ℕ → ℕ → Type 0
HasMore P service body k = (state : State) × RunsOn P service body k state

-- its job has at least k steps
abbrev pub HasSteps : ProgramTables → ℕ → List ℕ → ℕ → Type 0
HasSteps P service body k = (k ≡ 0) ⊎ ((m : ℕ) × (k ≡ suc m) × HasMore P service body m)

-- what the job has printed after k of its steps, or at its end, if that comes first
pub data PrintsBy (P : ProgramTables) (service : ℕ) (body : List ℕ) (k : ℕ) : List ℕ → Type 0 where
  no_run : {f : ServeFault} → RefusedAs P service body f → PrintsBy P service body k []
  in_run : {bytes : List ℕ} (r : Accepted P service body) (before : Heap) (args : List Value) → Entered P r before args
      → CallPrintedAfter P before r.request.method args r.request.call.budget k bytes → PrintsBy P service body k bytes
