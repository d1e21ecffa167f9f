-- How the frames of the machine in code are seen: each has a window of the values, one behind the other, that of the first
-- method first.
use Rattle.std.specs.Prelude.{◌≡◌, ℕ, ◌+◌, ◌-◌, ◌<◌, ◌≤◌, List, [], ◌∷◌, ◌++◌, Some, All, IsSome, IsSomeAnd, drop, length, replicate, reverse, slice_get, take}
use Rattle.std.specs.Option.{option_map_or}
use Rattle.nr_prog.specs.declared.body.instruction.Instr.{Instr}
use Rattle.nr_prog.specs.declared.body.whole.Body.{Body}
use Rattle.nr_linked.specs.declared.program.tables.MethodInfo.{MethodInfo}
use Rattle.nr_linked.specs.declared.program.tables.ProgramTables.{ProgramTables}
use Rattle.nr_linked.specs.declared.program.tables.Resolved.TheVariants as resolved
use Rattle.nr_linked.specs.Programs.{method_at}
use Rattle.nr_linked.specs.Sites.{Site, site_at}
use Rattle.nr_model.specs.declared.value.Value.{Value}
use Rattle.nr_model.specs.declared.value.Value.TheVariants.{Null}
use Rattle.nr_model.specs.States.{Frame, Control, Running}
use Rattle.nr_model.specs.CallRules.{operands_of}
use Rattle.nr_model.specs.Steps.{spread}
use Rattle.nr_model.specs.Outcomes.{max_frames, max_value_slots}
use Rattle.nr_step.specs.Windows.{top_first}
use Rattle.nr_machine.specs.declared.stack.Frame.{Frame as CodeFrame}

-- the instructions of a method
abbrev pub code_at : ProgramTables → ℕ → List Instr
code_at P m = option_map_or (λ i. option_map_or (λ (b : Body). b.instrs) i.body []) (method_at P m) []

-- the offset of the instruction at a place
abbrev pub offset_at : ProgramTables → ℕ → ℕ → ℕ
offset_at P m place = option_map_or (λ (i : Instr). i.at) (slice_get (code_at P m) place) 0

abbrev pub locals_of : ProgramTables → ℕ → ℕ
locals_of P m = option_map_or (λ (i : MethodInfo). i.max_locals) (method_at P m) 0

-- the value slots of a frame of the method
abbrev pub slots_of : ProgramTables → ℕ → ℕ
slots_of P m = option_map_or (λ i. i.max_locals + i.max_stack) (method_at P m) 0

-- the value slots of the frames together
abbrev pub all_slots : ProgramTables → List CodeFrame → ℕ
all_slots P [] = 0
all_slots P (f ∷ fs) = slots_of P f.method + all_slots P fs

-- the frame, with its window
abbrev pub frame_of : ProgramTables → CodeFrame → List Value → Frame
frame_of P f vs = let n = locals_of P f.method in record {
  method = f.method;
  offset = offset_at P f.method f.instr;
  locals = take n vs;
  operands = top_first (drop n vs) f.depth;
}

abbrev pub windows : ProgramTables → List CodeFrame → List Value → List Frame
windows P [] vs = []
windows P (f ∷ fs) vs = let n = slots_of P f.method in frame_of P f (take n vs) ∷ windows P fs (drop n vs)

-- the frames, that of the running method first
abbrev pub frames_of : ProgramTables → List CodeFrame → List Value → List Frame
frames_of P fs vs = reverse (windows P fs vs)

-- the frame's method has code, with the instruction at which the frame stands, and a place for each operand in use
pub record IsPlaced (P : ProgramTables) (f : CodeFrame) : Type 0 where
  pub method : MethodInfo
  pub body : Body
  pub is_method : method_at P f.method ≡ Some method
  pub is_body : method.body ≡ Some body
  pub instr : f.instr < length body.instrs
  pub depth : f.depth ≤ method.max_stack

-- within the limits, and each window is there
pub record IsStack (P : ProgramTables) (fs : List CodeFrame) (vs : List Value) : Type 0 where
  pub placed : All (IsPlaced P) fs
  pub sized : length vs ≡ all_slots P fs
  pub few_frames : length fs ≤ max_frames
  pub few_values : length vs ≤ max_value_slots

-- so many values: these, and null behind them
abbrev pub filled : ℕ → List Value → List Value
filled n vs = vs ++ replicate (n - length vs) Null

-- ---- the running frame

-- what Q says of the running frame and of those below it
abbrev pub OnRunning : List Frame → (Frame → List Frame → Type 0) → Type 0
OnRunning [] Q = ⊥
OnRunning (f ∷ fs) Q = Q f fs

-- an instruction of the method stands at the offset
abbrev pub StandsAt : ProgramTables → ℕ → ℕ → Type 0
StandsAt P m at = IsSomeAnd (method_at P m) (λ i. IsSome (site_at i at))

-- it stands at an instruction, and its method has a place for each of its operands
pub record CanRun (P : ProgramTables) (f : Frame) : Type 0 where
  pub method : MethodInfo
  pub site : Site
  pub is_method : method_at P f.method ≡ Some method
  pub is_site : site_at method f.offset ≡ Some site
  pub depth : length f.operands ≤ method.max_stack

-- so does the running frame, if the machine runs
abbrev pub CanGoOn : ProgramTables → Control → Type 0
CanGoOn P (Running fs) = OnRunning fs (λ f below. CanRun P f)
CanGoOn P control = Unit {0}

-- the frame has the arguments of the method, which fit its locals
pub record CanEnter (P : ProgramTables) (m : ℕ) (f : Frame) : Type 0 where
  pub method : MethodInfo
  pub body : Body
  pub is_method : method_at P m ≡ Some method
  pub is_body : method.body ≡ Some body
  pub enough : operands_of method ≤ length f.operands
  pub fits : length (spread (reverse (take (operands_of method) f.operands))) ≤ method.max_locals

-- the method can begin with these arguments, the first first: it has code, and they fit its locals
pub record CanBegin (P : ProgramTables) (m : ℕ) (args : List Value) : Type 0 where
  pub method : MethodInfo
  pub body : Body
  pub is_method : method_at P m ≡ Some method
  pub is_body : method.body ≡ Some body
  pub fits : length (spread args) ≤ method.max_locals

-- the instruction at which the frame stands names the method
pub record IsCallOf (P : ProgramTables) (f : Frame) (m : ℕ) : Type 0 where
  pub caller : MethodInfo
  pub site : Site
  pub named : ℕ
  pub is_caller : method_at P f.method ≡ Some caller
  pub is_site : site_at caller f.offset ≡ Some site
  pub found : site.resolved ≡ resolved.Method m named

-- the last of a list
abbrev pub IsLast : {X : Type 0} → List X → X → Type 0
IsLast {X} xs x = (ys : List X) × (xs ≡ ys ++ x ∷ [])
