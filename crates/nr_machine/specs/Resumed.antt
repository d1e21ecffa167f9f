-- What an answer to a machine's remote call does (the project's own).
use Rattle.std.specs.Prelude.{◌≡◌, ◌+◌, Option, Some, None}
use Rattle.nr_model.specs.declared.value.Value.{Value}
use Rattle.nr_model.specs.declared.value.Value.TheVariants.{Ref}
use Rattle.nr_model.specs.Heaps.{Heap}
use Rattle.nr_model.specs.States.{Control, State}
use Rattle.nr_model.specs.States as states
use Rattle.nr_model.specs.Outcomes.{Fate, passed}
use Rattle.nr_model.specs.Asks.{Answer, AskStep, Asks}
use Rattle.nr_model.specs.TypedAnswers.{entry_of}
use Rattle.nr_machine.specs.declared.answer.Turn.{Turn}
use Rattle.nr_machine.specs.declared.answer.Turn.TheVariants.{Returned, Thrown}
use Rattle.nr_machine.specs.Executions.{Execution, state_in}

-- the answer to the call at which x stands in heap h leads to the state t
abbrev pub AnswerLeads : Heap → Execution → Answer → State → Type 0
AnswerLeads h x answer t = (a : Asks x.program x.service (state_in h x))
    → AskStep x.program x.service (state_in h x) (entry_of a answer) t

-- a state after the answer would pass the limit
abbrev pub AnswerPasses : Heap → Execution → Answer → Fate → Type 0
AnswerPasses h x answer fate = (t : State) × AnswerLeads h x answer t × (passed x.program t ≡ Some fate)

-- the last answer of a machine with this control, if it has ended
abbrev pub end_of : Control → Option Turn
end_of (states.Returned v) = Some (Returned v)
end_of (states.Thrown (Ref a)) = Some (Thrown a)
end_of control = None

-- The answer to the call at which x stands in heap h leads to y in heap k. It is one step, and passes no limit.
pub record Resumed (h : Heap) (x : Execution) (answer : Answer) (y : Execution) (k : Heap) : Type 0 where
  pub answered : AnswerLeads h x answer (state_in k y)
  pub limits : passed x.program (state_in k y) ≡ None
  -- all else is as it was
  pub rest : y ≡ record x { steps = x.steps + 1; control = y.control; printed = y.printed; last = end_of y.control }
