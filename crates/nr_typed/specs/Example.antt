-- A small program: class 0 has an int field, an initialiser, a method m and a static main; class 1 extends it, implements
-- the interface 2 and overrides m. Its main makes an object of class 1 and calls m by the interface, and a handler
-- catches all.
use Rattle.std.specs.Prelude.{ℕ, pos, List, [], ◌∷◌, ◌++◌, Option, Some, None, Bool, true, false, codes, slice_get}
use Rattle.std.specs.Option.{option_map_or}
use Rattle.std.specs.FinMap.{empty, insert}
use Rattle.nr_optable.specs.Rows.{op, none, one}
use Rattle.nr_optable.specs.declared.table.Row.{Row}
use Rattle.nr_optable.specs.declared.table.Family.TheVariants.{F2, F3, F6, F12, F13, F30, F32, F33}
use Rattle.nr_optable.specs.declared.table.Shape.TheVariants as shapes
use Rattle.nr_optable.specs.declared.table.Letter.TheVariants.{I, A, R}
use Rattle.nr_optable.specs.declared.table.Kinds.TheVariants.{Own}
use Rattle.nr_prog.specs.declared.body.instruction.Args.{Args}
use Rattle.nr_prog.specs.declared.body.instruction.Args.TheVariants.{Empty, Pool}
use Rattle.nr_prog.specs.declared.body.instruction.Instr.{Instr}
use Rattle.nr_prog.specs.declared.body.whole.Body.{Body}
use Rattle.nr_prog.specs.declared.member.Handler.{Handler}
use Rattle.nr_linked.specs.declared.program.kind.Base.TheVariants as bases
use Rattle.nr_linked.specs.declared.program.kind.Kind.{Kind}
use Rattle.nr_linked.specs.declared.program.tables.ClassInfo.{ClassInfo}
use Rattle.nr_linked.specs.declared.program.tables.MethodInfo.{MethodInfo}
use Rattle.nr_linked.specs.declared.program.tables.ProgramTables.{ProgramTables}
use Rattle.nr_linked.specs.declared.program.tables.SlotInfo.{SlotInfo}
use Rattle.nr_linked.specs.declared.program.tables.Resolved.{Resolved}
use Rattle.nr_linked.specs.declared.program.tables.Resolved.TheVariants as resolved
use Rattle.nr_linked.specs.declared.program.types.VFrame.{VFrame}
use Rattle.nr_linked.specs.declared.program.types.VType.TheVariants.{Int, UninitThis, Uninit, Class}
use Rattle.nr_linked.specs.Kinds.{class_kind}
use Rattle.nr_linked.specs.BuiltInTables.{built_in_infos, built_in_methods}
use Rattle.nr_linked.specs.TypingFrames.{TypeFrame}
use Rattle.nr_linked.specs.declared.program.types.VType.{VType}
use Rattle.nr_model.specs.declared.value.Value.TheVariants as values
use Rattle.nr_model.specs.Heaps.{Obj, Heap}
use Rattle.nr_model.specs.States.{State}
use Rattle.nr_typed.specs.Standing.{first_state}

abbrev pub int_kind : Kind
int_kind = record { dims = 0; base = bases.Int }

abbrev pub field : SlotInfo
field = record { declared_in = 0; name = codes "v"; desc = codes "I"; kind = int_kind }

abbrev pub base_class : ClassInfo
base_class = record { name = codes "A"; flags = 0x0021; super_class = Some 3; interfaces = []; supers = 0 ∷ 3 ∷ []; slots = field ∷ []; first_method = 0; methods = 3; read = None }

abbrev pub sub_class : ClassInfo
sub_class = record { name = codes "B"; flags = 0x0021; super_class = Some 0; interfaces = 2 ∷ []; supers = 1 ∷ 0 ∷ 3 ∷ 2 ∷ []; slots = field ∷ []; first_method = 3; methods = 2; read = None }

abbrev pub face : ClassInfo
face = record { name = codes "I"; flags = 0x0601; super_class = Some 3; interfaces = []; supers = 2 ∷ 3 ∷ []; slots = []; first_method = 5; methods = 1; read = None }

-- ---- instructions

abbrev pub at : ℕ → Row → Args → Instr
at offset row a = record { at = offset; row = row; args = a }

abbrev pub aload_0 : Row
aload_0 = op 42 F3 shapes.Plain none (one R)

abbrev pub iconst_0 : Row
iconst_0 = op 3 F2 shapes.Plain none (one I)

abbrev pub ireturn : Row
ireturn = op 172 F6 shapes.Plain (one I) none

abbrev pub return_ : Row
return_ = op 177 F6 shapes.Plain none none

abbrev pub pop : Row
pop = op 87 F12 shapes.Plain Own Own

abbrev pub dup : Row
dup = op 89 F13 shapes.Plain Own Own

abbrev pub getfield : Row
getfield = op 180 F30 shapes.P2 (one A) Own

abbrev pub invokespecial : Row
invokespecial = op 183 F32 shapes.P2 Own Own

abbrev pub invokeinterface : Row
invokeinterface = op 185 F32 shapes.Itf Own Own

abbrev pub new_ : Row
new_ = op 187 F33 shapes.P2 none Own

-- ---- methods

abbrev pub method_of : ℕ → List ℕ → List ℕ → ℕ → Option Kind → ℕ → ℕ → Option Body → List Resolved → List (Option Kind) → List (ℕ × VFrame) → MethodInfo
method_of c name desc flags result max_stack max_locals body found catches maps = record {
  «class» = c;
  name = name;
  desc = desc;
  flags = flags;
  params = [];
  result = result;
  max_stack = max_stack;
  max_locals = max_locals;
  body = body;
  resolved = found;
  catches = catches;
  maps = maps;
}

abbrev pub body_of : List Instr → List Handler → Body
body_of is hs = record { instrs = is; handlers = hs; maps = [] }

-- an initialiser that calls that of the superclass, method n of class c
abbrev pub initialiser : ℕ → ℕ → ℕ → MethodInfo
initialiser own n c = method_of own (codes "<init>") (codes "()V") 0x0001 None 1 1
    (Some (body_of (at 0 aload_0 Empty ∷ at 1 invokespecial (Pool 1) ∷ at 4 return_ Empty ∷ []) []))
    (resolved.Nothing ∷ resolved.Method n c ∷ resolved.Nothing ∷ []) [] []

-- class 0's m gives the field
abbrev pub base_m : MethodInfo
base_m = method_of 0 (codes "m") (codes "()I") 0x0001 (Some int_kind) 1 1
    (Some (body_of (at 0 aload_0 Empty ∷ at 1 getfield (Pool 1) ∷ at 4 ireturn Empty ∷ []) []))
    (resolved.Nothing ∷ resolved.Slot 0 0 ∷ resolved.Nothing ∷ []) [] []

-- class 1's m gives what class 0's does
abbrev pub sub_m : MethodInfo
sub_m = method_of 1 (codes "m") (codes "()I") 0x0001 (Some int_kind) 1 1
    (Some (body_of (at 0 aload_0 Empty ∷ at 1 invokespecial (Pool 1) ∷ at 4 ireturn Empty ∷ []) []))
    (resolved.Nothing ∷ resolved.Method 1 0 ∷ resolved.Nothing ∷ []) [] []

abbrev pub face_m : MethodInfo
face_m = method_of 2 (codes "m") (codes "()I") 0x0401 (Some int_kind) 0 0 None [] [] []

abbrev pub throwable : ℕ
throwable = 5

abbrev pub main : MethodInfo
main = method_of 0 (codes "main") (codes "()I") 0x0009 (Some int_kind) 2 0
    (Some (body_of (at 0 new_ (Pool 1) ∷ at 3 dup Empty ∷ at 4 invokespecial (Pool 1) ∷ at 7 invokeinterface (Pool 1) ∷ at 12 ireturn Empty ∷
    at 13 pop Empty ∷ at 14 iconst_0 Empty ∷ at 15 ireturn Empty ∷ [])
    (record { start = 0; end = 12; handler = 13; catch_type = 0 } ∷ [])))
    (resolved.Kind (class_kind 1) ∷ resolved.Nothing ∷ resolved.Method 3 1 ∷ resolved.Method 5 2 ∷ resolved.Nothing ∷ resolved.Nothing ∷ resolved.Nothing ∷ resolved.Nothing ∷ [])
    (None ∷ []) ((13, record { locals = []; stack = Class (class_kind throwable) ∷ []; this_uninit = false }) ∷ [])

abbrev pub own_methods : List MethodInfo
own_methods = initialiser 0 6 3 ∷ base_m ∷ main ∷ initialiser 1 0 0 ∷ sub_m ∷ face_m ∷ []

unfoldable pub example : ProgramTables
example = record { classes = base_class ∷ sub_class ∷ face ∷ built_in_infos 3 6; methods = own_methods ++ built_in_methods 3 }

-- ---- their frames

abbrev pub types : List VType → List VType → Bool → TypeFrame
types locals operands uninit = record { locals = locals; operands = operands; this_uninit = uninit }

abbrev pub this_of : ℕ → VType
this_of c = Class (class_kind c)

abbrev pub initialiser_frames : ℕ → List TypeFrame
initialiser_frames c = types (UninitThis ∷ []) [] true ∷ types (UninitThis ∷ []) (UninitThis ∷ []) true ∷ types (this_of c ∷ []) [] false ∷ []

abbrev pub m_frames : ℕ → List TypeFrame
m_frames c = types (this_of c ∷ []) [] false ∷ types (this_of c ∷ []) (this_of c ∷ []) false ∷ types (this_of c ∷ []) (Int ∷ []) false ∷ []

abbrev pub main_frames : List TypeFrame
main_frames = types [] [] false ∷ types [] (Uninit 0 ∷ []) false ∷ types [] (Uninit 0 ∷ Uninit 0 ∷ []) false ∷ types [] (this_of 1 ∷ []) false ∷ types [] (Int ∷ []) false ∷
    types [] (this_of throwable ∷ []) false ∷ types [] [] false ∷ types [] (Int ∷ []) false ∷ []

abbrev pub frames : ℕ → List TypeFrame
frames n = option_map_or (λ (fs : List TypeFrame). fs) (slice_get (initialiser_frames 0 ∷ m_frames 0 ∷ main_frames ∷ initialiser_frames 1 ∷ m_frames 1 ∷ []) n) []

-- ---- a state

-- an object of class 1, alone in its heap
abbrev pub object : Obj
object = record { kind = class_kind 1; slots = values.Int (pos 7) ∷ [] }

abbrev pub one_object : Heap
one_object = insert empty 1 object

-- class 0's m is called on it
abbrev pub m_start : State
m_start = first_state one_object 1 base_m (values.Ref 1 ∷ [])
