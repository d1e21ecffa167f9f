-- What follows an instruction that leaves its frame: one more step, or why none is made.
use Rattle.std.specs.Prelude.{◌≡◌, ℕ, ◌+◌, ◌<◌, ◌≤◌, List, [], Option, Some, None, IfSome}
use Rattle.nr_linked.specs.declared.program.tables.ProgramTables.{ProgramTables}
use Rattle.nr_linked.specs.declared.program.tables.MethodInfo.{MethodInfo}
use Rattle.nr_linked.specs.Programs.{method_at}
use Rattle.nr_linked.specs.Sites.{Site, site_at}
use Rattle.nr_model.specs.declared.value.Value.{Value}
use Rattle.nr_model.specs.Asks.{Asks}
use Rattle.nr_model.specs.Heaps.{Heap}
use Rattle.nr_model.specs.LimitedRuns.{LimitedRun}
use Rattle.nr_model.specs.Outcomes.{passed}
use Rattle.nr_model.specs.Outcomes as outcomes
use Rattle.nr_model.specs.Rules.{script}
use Rattle.nr_model.specs.Scripts.{Gave, Runs, Within}
use Rattle.nr_model.specs.States.{Frame, State}
use Rattle.nr_model.specs.Steps.{Step, within}
use Rattle.nr_machine.specs.declared.answer.Turn.{Turn}
use Rattle.nr_machine.specs.declared.answer.Turn.TheVariants.{Ran, Returned, Thrown, RemoteAsk, BudgetSpent, TooDeep, HeapFull, OutputTooLong, NoMemory}
use Rattle.nr_machine.specs.declared.stack.Frame.{Frame as CodeFrame}
use Rattle.nr_machine.specs.CallStacks.{OnRunning}
use Rattle.nr_machine.specs.Machines.{control_of}
use Rattle.nr_machine.specs.Turned.{TakesMemory}

-- the machine with these frames and values, unless its answer is an end
abbrev pub seen : ProgramTables → Heap → List CodeFrame → List Value → Option Turn → List ℕ → State
seen P h fs vs answer printed = record { heap = h; control = control_of P fs vs answer; printed = printed }

-- one step of the machine's own, within the limits
pub record OwnStep (P : ProgramTables) (service : Option ℕ) (s t : State) : Type 0 where
  pub own : Asks P service s → ⊥
  pub step : Step P s t
  pub limits : passed P t ≡ None

-- the next step would be the machine's own, to a state of which Q holds
pub record CouldStep (P : ProgramTables) (service : Option ℕ) (s : State) (Q : State → Type 0) : Type 0 where
  pub own : Asks P service s → ⊥
  pub next : State
  pub step : Step P s next
  pub so : Q next

-- why no step is made from s
abbrev pub Stops : ProgramTables → Option ℕ → State → Turn → Type 0
Stops P service s (RemoteAsk m) = (a : Asks P service s) × (a.method ≡ m)
Stops P service s TooDeep = CouldStep P service s (λ t. passed P t ≡ Some outcomes.TooDeep)
Stops P service s HeapFull = CouldStep P service s (λ t. passed P t ≡ Some outcomes.HeapFull)
Stops P service s OutputTooLong = CouldStep P service s (λ t. passed P t ≡ Some outcomes.OutputTooLong)
Stops P service s NoMemory = CouldStep P service s (TakesMemory s)
Stops P service s answer = ⊥

-- the step from s is made, and leads to t, maybe to an end; or the machine stays where it is
abbrev pub Settles : ProgramTables → Option ℕ → Option Turn → State → State → Type 0
Settles P service None s t = OwnStep P service s t
Settles P service (Some (Returned v)) s t = OwnStep P service s t
Settles P service (Some (Thrown a)) s t = OwnStep P service s t
Settles P service (Some answer) s t = (t ≡ s) × Stops P service s answer

-- the running frame's instruction, in heap h, returns with this, and leaves heap k
abbrev pub GivesBack : ProgramTables → Heap → Heap → Option Value → List Frame → Type 0
GivesBack P h k v fs = OnRunning fs (λ f below. (own : MethodInfo) × (site : Site) × (u : Within)
    × (method_at P f.method ≡ Some own) × (site_at own f.offset ≡ Some site)
    × Runs (script P own site) (within h f) (Gave v) u × (u.printed ≡ []) × (u.heap ≡ k))

-- ---- several steps

-- so many steps, and the one that is made where the answer follows it
abbrev pub with_step : Option Turn → ℕ → ℕ
with_step None made = made + 1
with_step (Some (Returned v)) made = made + 1
with_step (Some (Thrown a)) made = made + 1
with_step (Some answer) made = made

-- why a turn of n steps, of which so many were made, goes on no further from t: an end, or a stop with steps left
abbrev pub EndsSo : ProgramTables → Option ℕ → ℕ → ℕ → State → Turn → Type 0
EndsSo P service n made t (Returned v) = Unit {0}
EndsSo P service n made t (Thrown a) = Unit {0}
EndsSo P service n made t answer = (made < n) × Stops P service t answer

-- so many steps of the machine's own lead from s to t, of at most n, and why it goes on no further, if it doesn't
pub record Advanced (P : ProgramTables) (service : Option ℕ) (n : ℕ) (s : State) (made : ℕ) (answer : Option Turn) (t : State) : Type 0 where
  pub run : LimitedRun P service s [] made t
  pub few : made ≤ n
  pub ends : IfSome answer (EndsSo P service n made t)
