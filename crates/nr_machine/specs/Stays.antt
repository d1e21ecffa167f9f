-- A stay in the running frame: steps one behind the other, and why they end there.
use Rattle.std.specs.Prelude.{◌≡◌, ℕ, ◌<◌, ◌≤◌, List, [], ◌∷◌, length, Option, None, IsSomeAnd, MatchOption}
use Rattle.nr_linked.specs.declared.program.kind.Kind.{Kind}
use Rattle.nr_linked.specs.declared.program.tables.ProgramTables.{ProgramTables}
use Rattle.nr_linked.specs.Programs.{method_at}
use Rattle.nr_linked.specs.Sites.{site_at}
use Rattle.nr_linked.specs.WellTyped.{WellTyped}
use Rattle.nr_model.specs.declared.value.Value.{Value}
use Rattle.nr_model.specs.Heaps.{Heap, cells}
use Rattle.nr_model.specs.LimitedRuns.{LimitedRun}
use Rattle.nr_model.specs.Outcomes.{max_cells, max_printed}
use Rattle.nr_model.specs.States.{Frame, Running, State}
use Rattle.nr_model.specs.Steps.{within}
use Rattle.nr_step.specs.declared.flow.Flow.{Flow}
use Rattle.nr_step.specs.declared.flow.Flow.TheVariants as flows
use Rattle.nr_step.specs.declared.flow.Told.{Told}
use Rattle.nr_step.specs.Flows.{Went}
use Rattle.nr_step.specs.Instructions.{doing}
use Rattle.nr_step.specs.Windows.{top_first}
use Rattle.nr_typed.specs.Standing.{StandsIn}
use Rattle.nr_machine.specs.declared.stack.Frame.{Frame as CodeFrame}
use Rattle.nr_machine.specs.CallStacks.{OnRunning, offset_at}

-- the machine with these frames, which has printed this
abbrev pub running : Heap → List Frame → List ℕ → State
running h fs printed = record { heap = h; control = Running fs; printed = printed }

-- the frames stand in the heap, by the types of a well-typed program's frames
abbrev pub FramesStand : ProgramTables → Heap → List Frame → Type 0
FramesStand P h fs = (typed : WellTyped P) × (result : Option Kind) × StandsIn P typed.frames result (running h fs [])

-- so many own steps lead from some frames and heap to others, whatever was printed and whichever class is asked for
abbrev pub GoesOn : ProgramTables → Heap → List Frame → ℕ → Heap → List Frame → Type 0
GoesOn P h fs made k gs = (service : Option ℕ) (printed : List ℕ) → length printed ≤ max_printed
    → LimitedRun P service (running h fs printed) [] made (running k gs printed)

-- the frame, with its locals and the places of its operands
abbrev pub frame_with : ProgramTables → CodeFrame → List Value → List Value → Frame
frame_with P f locals stack = record { method = f.method; offset = offset_at P f.method f.instr; locals = locals; operands = top_first stack f.depth }

-- ---- where it ends

-- the instruction at which the frame stands went so from heap h, and left heap k
abbrev pub FrameWent : Flow → ProgramTables → Heap → Told → Heap → Frame → Type 0
FrameWent flow P h told k f = IsSomeAnd (method_at P f.method) (λ own. IsSomeAnd (site_at own f.offset) (λ site.
    Went flow P (doing P own site.instr site.resolved) (within h f) told (within k f)))

-- the frame doesn't go on by itself
abbrev pub LeavesFrame : Flow → Type 0
LeavesFrame flows.Next = ⊥
LeavesFrame flows.Branch = ⊥
LeavesFrame flow = Unit {0}

-- The running frame's instruction went so from heap h, and left heap k. What follows it is still to be done.
pub record Leaves (P : ProgramTables) (fs : List Frame) (flow : Flow) (told : Told) (h k : Heap) : Type 0 where
  pub few : cells h ≤ max_cells
  pub leaves : LeavesFrame flow
  pub went : OnRunning fs (λ f below. FrameWent flow P h told k f)

-- A stay of so many steps: all were made, or the next instruction leaves the frame.
pub record Stayed (P : ProgramTables) (steps : ℕ) (h : Heap) (fs : List Frame) (made : ℕ) (flow : Option Flow) (told : Told)
    (k : Heap) (gs : List Frame) : Type 0 where
  -- the heap after the steps
  pub heap : Heap
  pub run : GoesOn P h fs made heap gs
  pub ends : MatchOption flow ((made ≡ steps) × (k ≡ heap)) (λ flow. (made < steps) × Leaves P gs flow told heap k)
