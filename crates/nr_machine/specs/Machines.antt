-- What the parts of a machine mean.
use Rattle.std.specs.Prelude.{◌≡◌, ℕ, ◌≤◌, List, Option, Some, None, length}
use Rattle.nr_linked.specs.declared.program.tables.ProgramTables.{ProgramTables}
use Rattle.nr_model.specs.declared.value.Value.{Value}
use Rattle.nr_model.specs.declared.value.Value.TheVariants.{Ref}
use Rattle.nr_model.specs.Outcomes.{max_printed}
use Rattle.nr_model.specs.States.{Control, Running}
use Rattle.nr_model.specs.States as states
use Rattle.nr_machine.specs.declared.answer.Turn.{Turn}
use Rattle.nr_machine.specs.declared.answer.Turn.TheVariants.{Returned, Thrown}
use Rattle.nr_machine.specs.declared.stack.Frame.{Frame as CodeFrame}
use Rattle.nr_machine.specs.declared.machine.Machine.TheInside.{Inside}
use Rattle.nr_machine.specs.CallStacks.{frames_of, IsStack}
use Rattle.nr_machine.specs.Executions.{Execution}

-- how the first method ended, if a last answer says so; else the frames
abbrev pub control_of : ProgramTables → List CodeFrame → List Value → Option Turn → Control
control_of P fs vs (Some (Returned v)) = states.Returned v
control_of P fs vs (Some (Thrown a)) = states.Thrown (Ref a)
control_of P fs vs last = Running (frames_of P fs vs)

abbrev pub execution_of : Inside → Execution
execution_of a = record {
  program = a.program.now;
  service = a.service;
  budget = a.budget;
  steps = a.steps;
  control = control_of a.program.now a.stack.frames.items a.stack.values.items a.last;
  printed = a.printed.items;
  last = a.last;
}

-- the selections are those of the program
pub record AreOf (selections P : ProgramTables) : Type 0 where
  pub same : selections ≡ P

pub record IsMachine (a : Inside) : Type 0 where
  pub stack : IsStack a.program.now a.stack.frames.items a.stack.values.items
  pub in_budget : a.steps ≤ a.budget
  pub selections : AreOf a.selections a.program.now
  pub few_printed : length a.printed.items ≤ max_printed
