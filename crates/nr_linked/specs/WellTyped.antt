-- Well-typed methods and programs (JVM Specification 4.10.1.1 to 4.10.1.6), with all frames at hand: each instruction has
-- one frame, also one that is never reached.
use Rattle.std.specs.Prelude.{◌≡◌, ℕ, ◌≤◌, List, [], ◌∷◌, length, Bool, true, false, ◌==◌, Option, Some, None, find, IsTrue, IsSome, IsSomeAnd, Contains, if◌then◌else◌}
use Rattle.std.specs.Option.{option_map, option_map_or}
use Rattle.nr_optable.specs.declared.table.Family.{Family}
use Rattle.nr_optable.specs.declared.table.Family.TheVariants.{F6, F28, F29, F36}
use Rattle.nr_prog.specs.declared.body.instruction.Args.{Args}
use Rattle.nr_prog.specs.declared.body.instruction.Args.TheVariants as args
use Rattle.nr_prog.specs.declared.body.instruction.Instr.{Instr}
use Rattle.nr_prog.specs.declared.body.whole.Body.{Body}
use Rattle.nr_prog.specs.declared.member.Handler.{Handler}
use Rattle.nr_linked.specs.declared.program.built_in.BuiltIn.TheVariants as built_ins
use Rattle.nr_linked.specs.declared.program.kind.Kind.{Kind}
use Rattle.nr_linked.specs.declared.program.tables.MethodInfo.{MethodInfo}
use Rattle.nr_linked.specs.declared.program.tables.ProgramTables.{ProgramTables}
use Rattle.nr_linked.specs.declared.program.types.VFrame.{VFrame}
use Rattle.nr_linked.specs.declared.program.types.VType.{VType}
use Rattle.nr_linked.specs.declared.program.types.VType.TheVariants.{Class}
use Rattle.nr_linked.specs.Handlers.{covers}
use Rattle.nr_linked.specs.Kinds.{class_kind}
use Rattle.nr_linked.specs.Subtypes.{is_assignable}
use Rattle.nr_linked.specs.BuiltIns.{built_in}
use Rattle.nr_linked.specs.Programs.{method_at}
use Rattle.nr_linked.specs.Sites.{Site, site_at}
use Rattle.nr_linked.specs.TypingFrames.{TypeFrame, turned, padded, frame_fits, places_of, entry_frame}
use Rattle.nr_linked.specs.TypingChecks.{Leaves}
use Rattle.nr_linked.specs.TypingObjects.{throwable_type}
use Rattle.nr_linked.specs.TypingRules.{type_op}

-- ---- where control goes on (4.10.1.9)

-- the branches of an instruction, for a switch the default first
abbrev pub targets_of : Args → List ℕ
targets_of (args.Branch t) = t ∷ []
targets_of (args.Switch other low ts) = other ∷ ts
targets_of (args.Look other keys ts) = other ∷ ts
targets_of a = []

-- control doesn't go on to the next instruction after a goto, a switch, a return or a throw
abbrev pub falls_through : Family → Bool
falls_through F6 = false
falls_through F28 = false
falls_through F29 = false
falls_through F36 = false
falls_through family = true

-- ---- frame maps (4.7.4) and frames at offsets

-- the frame of a frame map, with as many places as the method has
abbrev pub mapped_frame : MethodInfo → VFrame → TypeFrame
mapped_frame m v = turned (record v { locals = padded m.max_locals v.locals })

-- the frame that a frame map gives for the offset
abbrev pub map_at : MethodInfo → ℕ → Option TypeFrame
map_at m at = option_map (λ e. mapped_frame m e.1) (find (λ e. e.0 == at) m.maps)

-- what stands beside the instruction at the offset, in a list with one entry for each
abbrev pub frame_among : List Instr → List TypeFrame → ℕ → Option TypeFrame
frame_among [] fs at = None
frame_among (i ∷ is) [] at = None
frame_among (i ∷ is) (f ∷ fs) at = if i.at == at then Some f else frame_among is fs at

abbrev pub frame_at : MethodInfo → List TypeFrame → ℕ → Option TypeFrame
frame_at m fs at = option_map_or (λ body. frame_among body.instrs fs at) m.body None

-- ---- the checks between frames

-- A frame comes to the offset from the instruction before: it fits the map there, or is the frame there.
abbrev pub Comes : ProgramTables → MethodInfo → List TypeFrame → TypeFrame → ℕ → Option TypeFrame → Type 0
Comes P m fs f at None = frame_at m fs at ≡ Some f
Comes P m fs f at (Some g) = IsTrue (frame_fits P f g)

abbrev pub ComesTo : ProgramTables → MethodInfo → List TypeFrame → TypeFrame → ℕ → Type 0
ComesTo P m fs f at = Comes P m fs f at (map_at m at)

-- a branch or a throw leads to the offset: a map is there, and the frame fits it
abbrev pub FitsMap : ProgramTables → MethodInfo → TypeFrame → ℕ → Type 0
FitsMap P m f at = IsSomeAnd (map_at m at) (λ g. IsTrue (frame_fits P f g))

-- a map is at the offset of the next instruction, if there is a next one
abbrev pub Begins : MethodInfo → Option ℕ → Type 0
Begins m None = Unit {0}
Begins m (Some at) = IsSome (map_at m at)

-- What follows an instruction that leaves the frame: the next one, where control falls through to it. Where it doesn't,
-- the next one has a map.
abbrev pub Onward : ProgramTables → MethodInfo → List TypeFrame → Bool → Option ℕ → TypeFrame → Type 0
Onward P m fs true next f = IsSomeAnd next (ComesTo P m fs f)
Onward P m fs false next f = Begins m next

-- ---- exception handlers (4.10.1.6: instructionSatisfiesHandlers)

-- the type of what the handler catches
abbrev pub caught_type : ProgramTables → Option Kind → VType
caught_type P None = throwable_type P
caught_type P (Some k) = Class k

abbrev pub is_catchable : ProgramTables → Option Kind → Bool
is_catchable P None = true
is_catchable P (Some k) = is_assignable P k (class_kind (built_in P built_ins.Throwable))

-- the handlers, each with what it catches
abbrev pub with_catches : List Handler → List (Option Kind) → List (Handler × Option Kind)
with_catches [] ks = []
with_catches (h ∷ hs) [] = []
with_catches (h ∷ hs) (k ∷ ks) = (h, k) ∷ with_catches hs ks

abbrev pub catchers : MethodInfo → List (Handler × Option Kind)
catchers m = option_map_or (λ body. with_catches body.handlers m.catches) m.body []

-- the frame with which a handler begins
abbrev pub handler_frame : ProgramTables → Option Kind → TypeFrame → TypeFrame
handler_frame P k f = record f { operands = caught_type P k ∷ [] }

-- where the handler's range holds an instruction that has the frame
pub record HandlerFits (P : ProgramTables) (m : MethodInfo) (f : TypeFrame) (h : Handler) (k : Option Kind) : Type 0 where
  pub catchable : IsTrue (is_catchable P k)
  pub room : 1 ≤ m.max_stack
  pub fits : FitsMap P m (handler_frame P k f) h.handler

-- ---- well typed

-- the instruction at a site, which has the frame
pub record SiteTyped (P : ProgramTables) (m : MethodInfo) (fs : List TypeFrame) (s : Site) (f : TypeFrame) : Type 0 where
  pub handlers : (h : Handler) (k : Option Kind) → Contains (catchers m) (h, k) → IsTrue (covers h s.instr.at) → HandlerFits P m f h k
  -- the outgoing frame
  pub leaves : TypeFrame
  pub rule : type_op P m s f ≡ Leaves leaves
  pub branches : (t : ℕ) → Contains (targets_of s.instr.args) t → FitsMap P m leaves t
  pub onward : Onward P m fs (falls_through s.instr.row.family) s.next leaves

-- the method with this code
pub record MethodTyped (P : ProgramTables) (m : MethodInfo) (body : Body) (fs : List TypeFrame) : Type 0 where
  pub places : places_of P m ≤ m.max_locals
  pub one_each : length fs ≡ length body.instrs
  pub entry : ComesTo P m fs (entry_frame P m) 0
  -- the frame of each frame map is the frame at its offset
  pub maps : (at : ℕ) (g : TypeFrame) → map_at m at ≡ Some g → frame_at m fs at ≡ Some g
  pub sites : (at : ℕ) (s : Site) (f : TypeFrame) → site_at m at ≡ Some s → frame_at m fs at ≡ Some f → SiteTyped P m fs s f

-- each method with code, by frames for it
pub record WellTyped (P : ProgramTables) : Type 0 where
  pub frames : ℕ → List TypeFrame
  pub methods : (n : ℕ) (m : MethodInfo) (body : Body) → method_at P n ≡ Some m → m.body ≡ Some body → MethodTyped P m body (frames n)
