-- How a run with remote calls ends within a budget of steps and the limits of the machine (the project's own).
use Rattle.std.specs.Prelude.{◌≡◌, ℕ, suc, ◌<◌, ◌≤◌, List, Option, Some}
use Rattle.nr_linked.specs.declared.program.tables.ProgramTables.{ProgramTables}
use Rattle.nr_model.specs.States.{State, IsEnd}
use Rattle.nr_model.specs.Steps.{Step}
use Rattle.nr_model.specs.Outcomes.{Fate, Ended, BudgetSpent, passed}
use Rattle.nr_model.specs.Asks.{Asks, AskStep, Entry}
use Rattle.nr_model.specs.LimitedRuns.{LimitedRun}

-- as a run without remote calls ends; or at a remote call whose answer would lead past a limit; or at one that isn't
-- answered yet
pub data AskFate : Type 0 where
  Settled : Fate → AskFate
  Refused : Entry → Fate → AskFate
  Unanswered : AskFate

-- Why a run stops at a state, after so many steps of the budget; and the number of steps that count. An end comes first,
-- then a spent budget. A step or an answer that would lead past a limit counts, and isn't made.
pub data Stops (P : ProgramTables) (service : Option ℕ) (budget made : ℕ) (s : State) : ℕ → AskFate → Type 0 where
  at_end : IsEnd s.control → made ≤ budget → Stops P service budget made s made (Settled Ended)
  at_budget : (IsEnd s.control → ⊥) → made ≡ budget → Stops P service budget made s made (Settled BudgetSpent)
  at_limit : (t : State) {fate : Fate} → made < budget → (Asks P service s → ⊥) → Step P s t → passed P t ≡ Some fate
      → Stops P service budget made s (suc made) (Settled fate)
  at_answer : (t : State) (e : Entry) {fate : Fate} → made < budget → AskStep P service s e t → passed P t ≡ Some fate
      → Stops P service budget made s (suc made) (Refused e fate)
  at_call : made < budget → Asks P service s → Stops P service budget made s made Unanswered

-- From s, with these answered calls and this budget, the outcome is the fate, after so many steps, and leaves the state t.
pub record AskOutcome (P : ProgramTables) (service : Option ℕ) (s : State) (calls : List Entry) (budget steps : ℕ)
    (fate : AskFate) (t : State) : Type 0 where
  pub made : ℕ
  pub run : LimitedRun P service s calls made t
  pub stops : Stops P service budget made t steps fate
