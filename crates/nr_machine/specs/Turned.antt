-- What a turn of a machine does and answers (the project's own).
use Rattle.std.specs.Prelude.{◌≡◌, ℕ, suc, ◌+◌, ◌<◌, ◌≤◌, ◌⊎◌, List, [], length, Option, Some, None, MatchOption}
use Rattle.nr_model.specs.declared.value.Value.TheVariants.{Ref}
use Rattle.nr_model.specs.Heaps.{Heap, cells}
use Rattle.nr_model.specs.States.{State, IsEnd}
use Rattle.nr_model.specs.States as states
use Rattle.nr_model.specs.Steps.{Step}
use Rattle.nr_model.specs.Outcomes.{Fate, max_cells, passed}
use Rattle.nr_model.specs.Outcomes as outcomes
use Rattle.nr_model.specs.Asks.{Asks, Entry}
use Rattle.nr_model.specs.LimitedRuns.{LimitedRun}
use Rattle.nr_model.specs.AskOutcomes.{AskFate, Settled, Unanswered}
use Rattle.nr_machine.specs.declared.answer.Turn.{Turn}
use Rattle.nr_machine.specs.declared.answer.Turn.TheVariants.{Ran, Returned, Thrown, RemoteAsk, BudgetSpent, TooDeep, HeapFull, OutputTooLong, NoMemory}
use Rattle.nr_machine.specs.Executions.{Execution, state_in}

-- ---- why a turn ends

-- The machine could go on: fewer steps were made than the turn has, the budget isn't reached, and the next step would be
-- one of its own, to a state of which Q holds. It isn't made.
pub record StopsBefore (n made : ℕ) (h : Heap) (x : Execution) (Q : State → Type 0) : Type 0 where
  pub in_turn : made < n
  pub in_budget : x.steps < x.budget
  pub own : Asks x.program x.service (state_in h x) → ⊥
  pub next : State
  pub step : Step x.program (state_in h x) next
  pub so : Q next

-- the step would pass the limit
abbrev pub StopsAt : Fate → ℕ → ℕ → Heap → Execution → Type 0
StopsAt fate n made h x = StopsBefore n made h x (λ t. passed x.program t ≡ Some fate)

-- the step takes memory: it makes an object or an array, for which the heap isn't full, or prints
abbrev pub TakesMemory : State → State → Type 0
TakesMemory s t = ((cells s.heap < cells t.heap) × (cells t.heap ≤ max_cells)) ⊎ (length s.printed < length t.printed)

-- Why a turn of n steps, of which so many were made, ends with the answer where the machine stands now.
abbrev pub EndsTurn : ℕ → ℕ → Heap → Execution → Turn → Type 0
EndsTurn n made h x Ran = (made ≡ n) × (x.steps < x.budget) × ¬ IsEnd x.control
EndsTurn n made h x (Returned v) = x.control ≡ states.Returned v
EndsTurn n made h x (Thrown a) = x.control ≡ states.Thrown (Ref a)
EndsTurn n made h x (RemoteAsk m) =
    (made < n) × (x.steps < x.budget) × ((a : Asks x.program x.service (state_in h x)) × (a.method ≡ m))
EndsTurn n made h x BudgetSpent = (x.steps ≡ x.budget) × ¬ IsEnd x.control
EndsTurn n made h x TooDeep = StopsAt outcomes.TooDeep n made h x
EndsTurn n made h x HeapFull = StopsAt outcomes.HeapFull n made h x
EndsTurn n made h x OutputTooLong = StopsAt outcomes.OutputTooLong n made h x
EndsTurn n made h x NoMemory = StopsBefore n made h x (TakesMemory (state_in h x))

-- ---- a turn

-- the last answer that this is, if it is one: after the others the machine goes on
abbrev pub last_of : Turn → Option Turn
last_of Ran = None
last_of (RemoteAsk m) = None
last_of answer = Some answer

-- A turn of n steps leads from x in heap h to y in heap k: by steps of the machine's own, none of which passes a limit.
pub record Goes (n : ℕ) (x : Execution) (h : Heap) (answer : Turn) (y : Execution) (k : Heap) : Type 0 where
  pub made : ℕ
  pub run : LimitedRun x.program x.service (state_in h x) [] made (state_in k y)
  pub in_turn : made ≤ n
  pub in_budget : y.steps ≤ y.budget
  pub ends : EndsTurn n made k y answer
  -- all else is as it was
  pub rest : y ≡ record x { steps = x.steps + made; control = y.control; printed = y.printed; last = last_of answer }

-- A turn of n steps. A machine that has given a last answer gives it again, and stays as it is.
abbrev pub Turned : ℕ → Execution → Heap → Turn → Execution → Heap → Type 0
Turned n x h answer y k = MatchOption x.last (Goes n x h answer y k) (λ last. (answer ≡ last) × (y ≡ x) × (k ≡ h))

-- ---- what has come of a machine

-- it has come from the state s to where it stands, in heap h, with these answered calls
abbrev pub ComesFrom : State → List Entry → Heap → Execution → Type 0
ComesFrom s calls h x = LimitedRun x.program x.service s calls x.steps (state_in h x)

-- the outcome of which an answer tells, if it tells of one
abbrev pub fate_of : Turn → Option AskFate
fate_of Ran = None
fate_of (Returned v) = Some (Settled outcomes.Ended)
fate_of (Thrown a) = Some (Settled outcomes.Ended)
fate_of (RemoteAsk m) = Some Unanswered
fate_of BudgetSpent = Some (Settled outcomes.BudgetSpent)
fate_of TooDeep = Some (Settled outcomes.TooDeep)
fate_of HeapFull = Some (Settled outcomes.HeapFull)
fate_of OutputTooLong = Some (Settled outcomes.OutputTooLong)
fate_of NoMemory = None

-- the steps that count, of those that were made: at a limit one more
abbrev pub counted : Turn → ℕ → ℕ
counted TooDeep made = suc made
counted HeapFull made = suc made
counted OutputTooLong made = suc made
counted answer made = made
