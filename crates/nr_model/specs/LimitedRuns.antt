-- Runs with remote calls that keep the limits of the machine, and a machine that follows another (the project's own).
use Rattle.std.specs.Prelude.{◌≡◌, ◌≢◌, ℕ, zero, suc, ◌+◌, ◌≤◌, List, [], ◌∷◌, ◌++◌, length, Option, None}
use Rattle.std.specs.FinMap.{get}
use Rattle.nr_linked.specs.declared.program.tables.ProgramTables.{ProgramTables}
use Rattle.nr_model.specs.declared.value.Value.{Value}
use Rattle.nr_model.specs.Heaps.{Heap, cells}
use Rattle.nr_model.specs.States.{State}
use Rattle.nr_model.specs.Steps.{Step}
use Rattle.nr_model.specs.Outcomes.{passed}
use Rattle.nr_model.specs.Pairs.{IsClosed, NamedIn, PairedStates}
use Rattle.nr_model.specs.PairedCalls.{PairedCalls}
use Rattle.nr_model.specs.Asks.{Asks, AskStep, Entry}

-- as AskRun, where no state after a step passes a limit
pub data LimitedRun (P : ProgramTables) (service : Option ℕ) : State → List Entry → ℕ → State → Type 0 where
  there : {s : State} → LimitedRun P service s [] zero s
  own_step : {s t : State} {calls : List Entry} {k : ℕ} (m : State) → (Asks P service s → ⊥) → Step P s m
      → passed P m ≡ None → LimitedRun P service m calls k t → LimitedRun P service s calls (suc k) t
  remote_step : {s t : State} {e : Entry} {calls : List Entry} {k : ℕ} (m : State) → AskStep P service s e m
      → passed P m ≡ None → LimitedRun P service m calls k t → LimitedRun P service s (e ∷ calls) (suc k) t

-- A run of k steps leads from s to s', with these calls. Another machine has made j steps from t to t', with its own
-- answers. After j steps the first stands in a state that is paired with t' and has no fewer cells, both have made
-- equally many calls, and neither has passed a limit.
pub record Follows (P : ProgramTables) (service : Option ℕ) (ps : List (ℕ × ℕ)) (s s' : State)
    (calls : List Entry) (k : ℕ) (t t' : State) (others : List Entry) (j : ℕ) : Type 0 where
  pub state : State
  pub made : List Entry
  pub next : List Entry
  pub left : ℕ
  pub calls_apart : calls ≡ made ++ next
  pub steps_apart : k ≡ j + left
  pub before : LimitedRun P service s made j state
  pub after : LimitedRun P service state next left s'
  pub limits : LimitedRun P service t others j t'
  pub as_many : length made ≡ length others
  pub paired : PairedStates ps state t'
  pub size : cells t'.heap ≤ cells state.heap
  pub closed : IsClosed t'.heap
  pub named : (x : ℕ) → NamedIn t'.control x → get t'.heap x ≢ None

-- Among the calls, after as many as the others, stands one of this method. It is paired with the method's call with these
-- arguments in heap h, which has no more cells.
pub record NextCall (P : ProgramTables) (ps : List (ℕ × ℕ)) (calls others : List Entry) (h : Heap) (method : ℕ)
    (args : List Value) : Type 0 where
  pub made : List Entry
  pub entry : Entry
  pub later : List Entry
  pub calls_apart : calls ≡ made ++ entry ∷ later
  pub as_many : length made ≡ length others
  pub one_method : entry.method ≡ method
  pub paired : PairedCalls ps entry.before entry.args h args
  pub size : cells h ≤ cells entry.before
