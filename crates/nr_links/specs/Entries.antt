-- What the tables of a program say of a class that was loaded: what its file says, in the numbers of the program. How the
-- tables are laid out is the project's own.
use Rattle.std.specs.Prelude.{◌≡◌, ℕ, ◌+◌, List, [], ◌∷◌, length, map, take, Bool, true, nat_lt, ◌&&◌, Option, Some, None, All, IsTrue, slice_get}
use Rattle.std.specs.List.{AllZip, flat_map, list_any}
use Rattle.std.specs.Option.{option_map, option_map_or}
use Rattle.nr_base.specs.declared.desc.types.MethodDesc.{MethodDesc}
use Rattle.nr_prog.specs.declared.body.frame_map.FrameMap.{FrameMap}
use Rattle.nr_prog.specs.declared.body.frame_map.MapType.{MapType}
use Rattle.nr_prog.specs.declared.body.frame_map.MapType.TheVariants as map_types
use Rattle.nr_prog.specs.declared.body.loaded.Loaded.{Loaded}
use Rattle.nr_prog.specs.declared.body.whole.Body.{Body}
use Rattle.nr_prog.specs.declared.member.Code.{Code}
use Rattle.nr_prog.specs.declared.member.Handler.{Handler}
use Rattle.nr_prog.specs.declared.member.Method.{Method}
use Rattle.nr_prog.specs.declared.pool.PoolEntry.{PoolEntry}
use Rattle.nr_linked.specs.declared.program.kind.Kind.{Kind}
use Rattle.nr_linked.specs.declared.program.tables.ClassInfo.{ClassInfo}
use Rattle.nr_linked.specs.declared.program.tables.MethodInfo.{MethodInfo}
use Rattle.nr_linked.specs.declared.program.tables.ProgramTables.{ProgramTables}
use Rattle.nr_linked.specs.declared.program.types.VFrame.{VFrame}
use Rattle.nr_linked.specs.declared.program.types.VType.{VType}
use Rattle.nr_linked.specs.declared.program.types.VType.TheVariants as types
use Rattle.nr_base.specs.Descs.{desc, method_desc}
use Rattle.nr_linked.specs.KindTexts.{kind_desc}
use Rattle.nr_linked.specs.Linked.{frame_maps_of, handlers_of, instrs_of}
use Rattle.nr_linked.specs.Programs.{method_at}
use Rattle.nr_linked.specs.TypingCalls.{is_uninit_this}
use Rattle.nr_linked.specs.TypingFrames.{in_places}
use Rattle.nr_links.specs.Found.{IsFound}
use Rattle.nr_links.specs.Named.{NamesKind}

-- ---- exception handlers (4.7.3)

-- what the handler catches: all, or the class that it names
abbrev pub IsCaught : ProgramTables → List PoolEntry → Handler → Option Kind → Type 0
IsCaught P pool h None = h.catch_type ≡ 0
IsCaught P pool h (Some k) = NamesKind P pool h.catch_type k

-- ---- frame maps (4.7.4)

-- the type as a frame map writes it
abbrev pub map_type : ProgramTables → VType → MapType
map_type P types.Top = map_types.Top
map_type P types.Int = map_types.Int
map_type P types.Long = map_types.Long
map_type P types.Null = map_types.Null
map_type P types.UninitThis = map_types.UninitThis
map_type P (types.Uninit at) = map_types.Uninit at
map_type P (types.Class k) = map_types.Object (kind_desc P k)

-- the frame of a frame map, at its offset
pub record IsFrameOf (P : ProgramTables) (f : FrameMap) (e : ℕ × VFrame) : Type 0 where
  pub at : e.0 ≡ f.at
  -- each local variable in its places, of which a long takes two
  pub locals : List VType
  pub are_locals : map (map_type P) locals ≡ f.locals
  pub in_places : e.1.locals ≡ in_places locals
  pub stack : map (map_type P) e.1.stack ≡ f.stack
  -- `this` isn't initialised where it is so among the local variables (4.10.1.4, flagThisUninit)
  pub this_uninit : e.1.this_uninit ≡ list_any is_uninit_this e.1.locals

-- ---- methods

abbrev pub stack_places : Option Code → ℕ
stack_places code = option_map_or (λ c. c.max_stack) code 0

abbrev pub local_places : Option Code → ℕ
local_places code = option_map_or (λ c. c.max_locals) code 0

-- The entry i of a method m of class c, whose constant pool this is, with its decoded code. Its class, its name, its
-- descriptor and its flags are those of the file, as `Linked` says.
pub record IsMethodAs (P : ProgramTables) (c : ℕ) (pool : List PoolEntry) (m : Method) (decoded : Option Body) (i : MethodInfo) : Type 0 where
  -- what its descriptor says
  pub says : MethodDesc
  pub spelled : method_desc says i.desc
  pub params : map (kind_desc P) i.params ≡ says.params
  pub result : option_map (kind_desc P) i.result ≡ says.result
  -- its code, and the places that it takes; none where it is abstract
  pub body : i.body ≡ decoded
  pub max_stack : i.max_stack ≡ stack_places m.code
  pub max_locals : i.max_locals ≡ local_places m.code
  -- what was found for each instruction, each exception handler and each frame map
  pub resolved : AllZip (IsFound P c pool) (instrs_of i) i.resolved
  pub catches : AllZip (IsCaught P pool) (handlers_of i) i.catches
  pub maps : AllZip (IsFrameOf P) (frame_maps_of i) i.maps

-- ---- classes

-- how many methods some classes declare
abbrev pub method_count : List Loaded → ℕ
method_count classes = length (flat_map (λ l. l.«class».methods) classes)

-- each number is above the one before
abbrev pub is_rising : List ℕ → Bool
is_rising [] = true
is_rising (x ∷ []) = true
is_rising (x ∷ y ∷ more) = nat_lt x y && is_rising (y ∷ more)

-- The entry e of the class that was loaded at place c. Its name, flags, superclass, superinterfaces and slots are those of its
-- file, as `Linked` says.
pub record IsClassAs (P : ProgramTables) (classes : List Loaded) (c : ℕ) (l : Loaded) (e : ClassInfo) : Type 0 where
  -- the file itself
  pub read : e.read ≡ Some l.«class»
  -- each of its slots holds what its descriptor says
  pub slots : All (λ s. desc (kind_desc P s.kind) s.desc) e.slots
  -- what stands above it, in the order of the table, each once
  pub rising : IsTrue (is_rising e.supers)
  -- its methods come after those of the classes before it, in their order
  pub first_method : e.first_method ≡ method_count (take c classes)
  pub methods : (n : ℕ) (m : Method) (decoded : Option Body) (i : MethodInfo)
      → slice_get l.«class».methods n ≡ Some m → slice_get l.bodies n ≡ Some decoded → method_at P (e.first_method + n) ≡ Some i
      → IsMethodAs P c l.«class».pool m decoded i
