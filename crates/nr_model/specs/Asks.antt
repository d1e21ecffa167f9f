-- Runs in which the calls of a service's methods are answered from outside (the project's own). A service is a class; its
-- remote methods are the public static methods that it declares.
use Rattle.std.specs.Prelude.{◌≡◌, ℕ, zero, suc, Bool, true, false, ◌&&◌, List, [], ◌∷◌, ◌++◌, take, drop, length, Option, Some, None, is_some, nat_le, ◌==◌}
use Rattle.std.specs.FinMap.{get, insert}
use Rattle.nr_optable.specs.declared.table.Family.TheVariants.{F32}
use Rattle.nr_linked.specs.declared.program.tables.MethodInfo.{MethodInfo}
use Rattle.nr_linked.specs.declared.program.tables.ProgramTables.{ProgramTables}
use Rattle.nr_linked.specs.declared.program.tables.Resolved.TheVariants as resolved
use Rattle.nr_linked.specs.declared.program.built_in.BuiltIn.TheVariants.{RemoteFault}
use Rattle.nr_linked.specs.BuiltIns.{built_in}
use Rattle.nr_linked.specs.Kinds.{class_kind}
use Rattle.nr_prog.specs.Members.{is_static}
use Rattle.nr_linked.specs.Programs.{method_at}
use Rattle.nr_linked.specs.Selection.{is_public}
use Rattle.nr_linked.specs.Sites.{Site, site_at}
use Rattle.nr_model.specs.declared.value.Value.{Value}
use Rattle.nr_model.specs.declared.value.Value.TheVariants.{Ref}
use Rattle.nr_model.specs.Heaps.{Heap, on_some}
use Rattle.nr_model.specs.Scripts.{new_object}
use Rattle.nr_model.specs.Throws.{zeros}
use Rattle.nr_model.specs.CallRules.{operands_of}
use Rattle.nr_model.specs.States.{Frame, Running, State}
use Rattle.nr_model.specs.Steps.{unwound, given, Step}

abbrev pub is_remote : Option ℕ → MethodInfo → Bool
is_remote service i = on_some service false (λ c. i.class == c && (is_public i.flags && is_static i.flags))

-- ---- the state stands at a remote call

-- the next instruction is an invokestatic of a remote method
pub record Asks (P : ProgramTables) (service : Option ℕ) (s : State) : Type 0 where
  pub frame : Frame
  pub below : List Frame
  pub running : s.control ≡ Running (frame ∷ below)
  pub caller : MethodInfo
  pub calling : method_at P frame.method ≡ Some caller
  pub site : Site
  pub standing : site_at caller frame.offset ≡ Some site
  pub family : site.instr.row.family ≡ F32
  pub code : site.instr.row.code ≡ 184
  pub method : ℕ
  pub named : ℕ
  pub found : site.resolved ≡ resolved.Method method named
  pub info : MethodInfo
  pub called : method_at P method ≡ Some info
  pub has_code : is_some info.body ≡ true
  pub remote : is_remote service info ≡ true
  pub enough : nat_le (operands_of info) (length frame.operands) ≡ true

-- the arguments, the last first
abbrev pub asked_args : {P : ProgramTables} {service : Option ℕ} {s : State} → Asks P service s → List Value
asked_args a = take (operands_of a.info) a.frame.operands

-- the frames that wait for the answer
abbrev pub waiting : {P : ProgramTables} {service : Option ℕ} {s : State} → Asks P service s → List Frame
waiting a = record a.frame { operands = drop (operands_of a.info) a.frame.operands } ∷ a.below

-- ---- answers

-- what a remote call left of the heap, its value, and what it printed; or its fault, with the name of the object that is
-- thrown
pub data Answer : Type 0 where
  Answered : Heap → Option Value → List ℕ → Answer
  Faulted : ℕ → Answer

pub record Entry : Type 0 where
  pub method : ℕ
  pub args : List Value
  pub before : Heap
  pub answer : Answer

-- the class that a fault throws
abbrev pub fault_class : ProgramTables → ℕ
fault_class P = built_in P RemoteFault

-- the call is answered from s, where these frames wait, in t; a fault throws a new object of the class for it
abbrev pub AnswerStep : ProgramTables → List Frame → Answer → State → State → Type 0
AnswerStep P frames (Answered after value printed) s t =
    (t.heap ≡ after) × (given P value frames ≡ Some t.control) × (t.printed ≡ s.printed ++ printed)
AnswerStep P frames (Faulted name) s t =
    (get s.heap name ≡ None)
    × (t.heap ≡ insert s.heap name (new_object (class_kind (fault_class P)) (zeros P (fault_class P))))
    × (t.control ≡ unwound P (class_kind (fault_class P)) (Ref name) frames) × (t.printed ≡ s.printed)

-- one remote step, of this entry
pub record AskStep (P : ProgramTables) (service : Option ℕ) (s : State) (e : Entry) (t : State)
    : Type 0 where
  pub asks : Asks P service s
  pub method : e.method ≡ asks.method
  pub args : e.args ≡ asked_args asks
  pub before : e.before ≡ s.heap
  pub answer : AnswerStep P (waiting asks) e.answer s t

-- k steps lead from the first state to the last; each remote call is one step, and takes the next entry
pub data AskRun (P : ProgramTables) (service : Option ℕ) : State → List Entry → ℕ → State → Type 0 where
  arrived : {s : State} → AskRun P service s [] zero s
  own : {s t : State} {calls : List Entry} {k : ℕ} (m : State) → (Asks P service s → ⊥) → Step P s m
      → AskRun P service m calls k t → AskRun P service s calls (suc k) t
  asked : {s t : State} {e : Entry} {calls : List Entry} {k : ℕ} (m : State) → AskStep P service s e m
      → AskRun P service m calls k t → AskRun P service s (e ∷ calls) (suc k) t
