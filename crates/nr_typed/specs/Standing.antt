-- States that stand in their heap: the frames hold values of the types of the well-typed program's frames.
use Rattle.std.specs.Prelude.{◌≡◌, ℕ, ◌≤◌, List, [], ◌∷◌, drop, Option, Some}
use Rattle.nr_linked.specs.declared.program.built_in.BuiltIn.TheVariants.{Throwable}
use Rattle.nr_linked.specs.declared.program.kind.Kind.{Kind}
use Rattle.nr_linked.specs.declared.program.tables.MethodInfo.{MethodInfo}
use Rattle.nr_linked.specs.declared.program.tables.ProgramTables.{ProgramTables}
use Rattle.nr_linked.specs.declared.program.tables.Resolved.TheVariants as resolved
use Rattle.nr_prog.specs.declared.body.whole.Body.{Body}
use Rattle.nr_optable.specs.declared.table.Family.TheVariants.{F32}
use Rattle.nr_linked.specs.BuiltIns.{built_in}
use Rattle.nr_linked.specs.Kinds.{class_kind}
use Rattle.nr_linked.specs.Programs.{method_at, result_of}
use Rattle.nr_linked.specs.Sites.{Site, site_at}
use Rattle.nr_linked.specs.TypingFrames.{TypeFrame, total_size}
use Rattle.nr_linked.specs.WellTyped.{frame_at}
use Rattle.nr_model.specs.declared.value.Value.{Value}
use Rattle.nr_model.specs.Heaps.{Heap}
use Rattle.nr_model.specs.CallRules.{operands_of}
use Rattle.nr_model.specs.States.{Frame, Control, Running, Returned, Thrown, State}
use Rattle.nr_model.specs.Steps.{first_frame}
use Rattle.nr_model.specs.Types.{Ty, Object, operand_tys, local_tys}
use Rattle.nr_model.specs.Belonging.{Belongs, Belong, IsResult}
use Rattle.nr_model.specs.TypedHeaps.{TypedHeap}

-- the frame's method, its instruction and the types there, with local variables that belong to them
pub record Holds (P : ProgramTables) (frames : ℕ → List TypeFrame) (h : Heap) (f : Frame) : Type 0 where
  pub method : MethodInfo
  pub body : Body
  pub site : Site
  pub types : TypeFrame
  pub is_method : method_at P f.method ≡ Some method
  pub is_body : method.body ≡ Some body
  pub is_site : site_at method f.offset ≡ Some site
  pub is_types : frame_at method (frames f.method) f.offset ≡ Some types
  pub locals : Belong P h (local_tys method method.max_locals types.locals) f.locals

-- the running frame has the operands of its types
pub record Stands (P : ProgramTables) (frames : ℕ → List TypeFrame) (h : Heap) (f : Frame) : Type 0 where
  pub holds : Holds P frames h f
  pub operands : Belong P h (operand_tys holds.method holds.types.operands) f.operands
  pub room : total_size holds.types.operands ≤ holds.method.max_stack

-- both have the same name, take the same arguments and give the same result
pub record SameNameAndDescriptor (i j : MethodInfo) : Type 0 where
  pub name : i.name ≡ j.name
  pub flags : operands_of i ≡ operands_of j
  pub params : i.params ≡ j.params
  pub result : i.result ≡ j.result

-- A frame below one of method r waits at a call: r has the name and the descriptor of the method to which the call
-- resolves, and the frame has the operands of its types without the arguments.
pub record Waits (P : ProgramTables) (frames : ℕ → List TypeFrame) (h : Heap) (r : ℕ) (f : Frame) : Type 0 where
  pub holds : Holds P frames h f
  pub is_call : holds.site.instr.row.family ≡ F32
  pub named : ℕ
  pub owner : ℕ
  pub is_named : holds.site.resolved ≡ resolved.Method named owner
  pub target : MethodInfo
  pub is_target : method_at P named ≡ Some target
  pub above : MethodInfo
  pub is_above : method_at P r ≡ Some above
  pub same : SameNameAndDescriptor target above
  pub operands : Belong P h (operand_tys holds.method (drop (operands_of target) holds.types.operands)) f.operands

-- the frames below one of method r, each of which waits under the one above it; the bottom frame's method has the result
abbrev pub AllWait : ProgramTables → (ℕ → List TypeFrame) → Option Kind → Heap → ℕ → List Frame → Type 0
AllWait P frames result h r [] = result_of P r ≡ result
AllWait P frames result h r (f ∷ fs) = Waits P frames h r f × AllWait P frames result h f.method fs

-- at least one frame
abbrev pub AllStand : ProgramTables → (ℕ → List TypeFrame) → Option Kind → Heap → List Frame → Type 0
AllStand P frames result h [] = ⊥
AllStand P frames result h (f ∷ fs) = Stands P frames h f × AllWait P frames result h f.method fs

abbrev pub throwable : ProgramTables → Ty
throwable P = Object (class_kind (built_in P Throwable))

-- an end by a return holds the result, and one by a throw a throwable object
abbrev pub ControlStands : ProgramTables → (ℕ → List TypeFrame) → Option Kind → Heap → Control → Type 0
ControlStands P frames result h (Running fs) = AllStand P frames result h fs
ControlStands P frames result h (Returned v) = IsResult P h result v
ControlStands P frames result h (Thrown v) = Belongs P h (throwable P) v

-- a state of a machine whose first method has the result
pub record StandsIn (P : ProgramTables) (frames : ℕ → List TypeFrame) (result : Option Kind) (s : State) : Type 0 where
  pub heap : TypedHeap P s.heap
  pub control : ControlStands P frames result s.heap s.control

-- the same machine in another heap
abbrev pub with_heap : Heap → State → State
with_heap h s = record s { heap = h }

-- the state with one frame of method n, at its entry, with nothing printed; the arguments stand the last first
abbrev pub first_state : Heap → ℕ → MethodInfo → List Value → State
first_state h n m args = record { heap = h; control = Running (first_frame m n args ∷ []); printed = [] }
