-- A class and an interface that it implements, as they are loaded, and the tables that they link to. The class A has an int
-- field v, an initialiser, a method m that gives the field, and a static main that makes an A and calls m by the interface
-- Face; a handler catches a Throwable.
use Rattle.std.specs.Prelude.{ℕ, List, [], ◌∷◌, ◌++◌, Option, Some, None, false, codes}
use Rattle.nr_optable.specs.Rows.{op, none, one}
use Rattle.nr_optable.specs.declared.table.Row.{Row}
use Rattle.nr_optable.specs.declared.table.Family.TheVariants.{F2, F3, F6, F12, F13, F30, F32, F33}
use Rattle.nr_optable.specs.declared.table.Shape.TheVariants as shapes
use Rattle.nr_optable.specs.declared.table.Letter.TheVariants.{I, A, R}
use Rattle.nr_optable.specs.declared.table.Kinds.TheVariants.{Own}
use Rattle.nr_base.specs.declared.desc.types.DescBase.TheVariants as desc_bases
use Rattle.nr_prog.specs.declared.body.frame_map.FrameMap.{FrameMap}
use Rattle.nr_prog.specs.declared.body.frame_map.MapType.TheVariants as map_types
use Rattle.nr_prog.specs.declared.body.instruction.Args.{Args}
use Rattle.nr_prog.specs.declared.body.instruction.Args.TheVariants.{Empty, Pool}
use Rattle.nr_prog.specs.declared.body.instruction.Instr.{Instr}
use Rattle.nr_prog.specs.declared.body.loaded.Loaded.{Loaded}
use Rattle.nr_prog.specs.declared.body.whole.Body.{Body}
use Rattle.nr_prog.specs.declared.member.Code.{Code}
use Rattle.nr_prog.specs.declared.member.Handler.{Handler}
use Rattle.nr_prog.specs.declared.member.Method.{Method}
use Rattle.nr_prog.specs.declared.parts.ClassParts.{ClassParts}
use Rattle.nr_prog.specs.declared.pool.PoolEntry.{PoolEntry}
use Rattle.nr_prog.specs.declared.pool.PoolEntry.TheVariants as pool
use Rattle.nr_linked.specs.declared.program.kind.Base.TheVariants as bases
use Rattle.nr_linked.specs.declared.program.kind.Kind.{Kind}
use Rattle.nr_linked.specs.declared.program.tables.ClassInfo.{ClassInfo}
use Rattle.nr_linked.specs.declared.program.tables.MethodInfo.{MethodInfo}
use Rattle.nr_linked.specs.declared.program.tables.ProgramTables.{ProgramTables}
use Rattle.nr_linked.specs.declared.program.tables.Resolved.{Resolved}
use Rattle.nr_linked.specs.declared.program.tables.Resolved.TheVariants as resolved
use Rattle.nr_linked.specs.declared.program.tables.SlotInfo.{SlotInfo}
use Rattle.nr_linked.specs.declared.program.types.VFrame.{VFrame}
use Rattle.nr_linked.specs.declared.program.types.VType.TheVariants.{Class}
use Rattle.nr_linked.specs.BuiltInTables.{built_in_infos, built_in_methods}
use Rattle.nr_linked.specs.Kinds.{class_kind}

-- ---- the class A

abbrev pub a_pool : List PoolEntry
a_pool = pool.Utf8 (codes "A") ∷ pool.Class 1 ∷ pool.Utf8 (codes "java/lang/Object") ∷ pool.Class 3 ∷
    pool.Utf8 (codes "Face") ∷ pool.Class 5 ∷ pool.Utf8 (codes "v") ∷ pool.Utf8 (codes "I") ∷ pool.NameAndType 7 8 ∷ pool.FieldRef 2 9 ∷
    pool.Utf8 (codes "<init>") ∷ pool.Utf8 (codes "()V") ∷ pool.NameAndType 11 12 ∷ pool.MethodRef 4 13 ∷ pool.MethodRef 2 13 ∷
    pool.Utf8 (codes "m") ∷ pool.Utf8 (codes "()I") ∷ pool.NameAndType 16 17 ∷ pool.InterfaceMethodRef 6 18 ∷
    pool.Utf8 (codes "main") ∷ pool.Utf8 (codes "java/lang/Throwable") ∷ pool.Class 21 ∷ []

abbrev pub code_of : ℕ → ℕ → List ℕ → List Handler → Option (List ℕ) → Code
code_of max_stack max_locals bytes handlers maps = record { max_stack = max_stack; max_locals = max_locals; bytes = bytes; handlers = handlers; maps = maps }

abbrev pub handler : Handler
handler = record { start = 0; end = 12; handler = 13; catch_type = 22 }

abbrev pub main_code : Code
main_code = code_of 2 0 (0xBB ∷ 0 ∷ 2 ∷ 0x59 ∷ 0xB7 ∷ 0 ∷ 15 ∷ 0xB9 ∷ 0 ∷ 19 ∷ 1 ∷ 0 ∷ 0xAC ∷ 0x57 ∷ 0x03 ∷ 0xAC ∷ []) (handler ∷ []) (Some (0 ∷ 1 ∷ 0x4D ∷ 7 ∷ 0 ∷ 22 ∷ []))

abbrev pub a_methods : List Method
a_methods = record { flags = 0x0001; name = 11; desc = 12; code = Some (code_of 1 1 (0x2A ∷ 0xB7 ∷ 0 ∷ 14 ∷ 0xB1 ∷ []) [] None) }
    ∷ record { flags = 0x0001; name = 16; desc = 17; code = Some (code_of 1 1 (0x2A ∷ 0xB4 ∷ 0 ∷ 10 ∷ 0xAC ∷ []) [] None) }
    ∷ record { flags = 0x0009; name = 20; desc = 17; code = Some main_code } ∷ []

abbrev pub a_parts : ClassParts
a_parts = record {
  pool = a_pool;
  flags = 0x0021;
  this_class = 2;
  super_class = 4;
  interfaces = 6 ∷ [];
  fields = record { flags = 0; name = 7; desc = 8; constant = 0 } ∷ [];
  methods = a_methods;
}

-- ---- the interface Face

abbrev pub face_method : Method
face_method = record { flags = 0x0401; name = 5; desc = 6; code = None }

abbrev pub face_parts : ClassParts
face_parts = record {
  pool = pool.Utf8 (codes "Face") ∷ pool.Class 1 ∷ pool.Utf8 (codes "java/lang/Object") ∷ pool.Class 3 ∷ pool.Utf8 (codes "m") ∷ pool.Utf8 (codes "()I") ∷ [];
  flags = 0x0601;
  this_class = 2;
  super_class = 4;
  interfaces = [];
  fields = [];
  methods = face_method ∷ [];
}

-- ---- their code

abbrev pub instr : ℕ → Row → Args → Instr
instr at row a = record { at = at; row = row; args = a }

abbrev pub aload_0 : Row
aload_0 = op 42 F3 shapes.Plain none (one R)

abbrev pub iconst_0 : Row
iconst_0 = op 3 F2 shapes.Plain none (one I)

abbrev pub ireturn : Row
ireturn = op 172 F6 shapes.Plain (one I) none

abbrev pub return_ : Row
return_ = op 177 F6 shapes.Plain none none

abbrev pub pop : Row
pop = op 87 F12 shapes.Plain Own Own

abbrev pub dup : Row
dup = op 89 F13 shapes.Plain Own Own

abbrev pub getfield : Row
getfield = op 180 F30 shapes.P2 (one A) Own

abbrev pub invokespecial : Row
invokespecial = op 183 F32 shapes.P2 Own Own

abbrev pub invokeinterface : Row
invokeinterface = op 185 F32 shapes.Itf Own Own

abbrev pub new_ : Row
new_ = op 187 F33 shapes.P2 none Own

abbrev pub body_of : List Instr → List Handler → List FrameMap → Body
body_of is hs maps = record { instrs = is; handlers = hs; maps = maps }

abbrev pub init_body : Body
init_body = body_of (instr 0 aload_0 Empty ∷ instr 1 invokespecial (Pool 14) ∷ instr 4 return_ Empty ∷ []) [] []

abbrev pub m_body : Body
m_body = body_of (instr 0 aload_0 Empty ∷ instr 1 getfield (Pool 10) ∷ instr 4 ireturn Empty ∷ []) [] []

abbrev pub main_map : FrameMap
main_map = record { at = 13; locals = []; stack = map_types.Object (record { dims = 0; base = desc_bases.Object (codes "java/lang/Throwable") }) ∷ [] }

abbrev pub main_body : Body
main_body = body_of (instr 0 new_ (Pool 2) ∷ instr 3 dup Empty ∷ instr 4 invokespecial (Pool 15) ∷ instr 7 invokeinterface (Pool 19) ∷ instr 12 ireturn Empty ∷
    instr 13 pop Empty ∷ instr 14 iconst_0 Empty ∷ instr 15 ireturn Empty ∷ []) (handler ∷ []) (main_map ∷ [])

abbrev pub a_loaded : Loaded
a_loaded = record { «class» = a_parts; bodies = Some init_body ∷ Some m_body ∷ Some main_body ∷ [] }

abbrev pub face_loaded : Loaded
face_loaded = record { «class» = face_parts; bodies = None ∷ [] }

unfoldable pub loaded : List Loaded
loaded = a_loaded ∷ face_loaded ∷ []

-- ---- the tables: A is class 0, Face class 1, java/lang/Object class 2, java/lang/Throwable class 4

abbrev pub int_kind : Kind
int_kind = record { dims = 0; base = bases.Int }

abbrev pub slot : SlotInfo
slot = record { declared_in = 0; name = codes "v"; desc = codes "I"; kind = int_kind }

abbrev pub a_info : ClassInfo
a_info = record { name = codes "A"; flags = 0x0021; super_class = Some 2; interfaces = 1 ∷ []; supers = 0 ∷ 1 ∷ 2 ∷ []; slots = slot ∷ []; first_method = 0; methods = 3; read = Some a_parts }

abbrev pub face_info : ClassInfo
face_info = record { name = codes "Face"; flags = 0x0601; super_class = Some 2; interfaces = []; supers = 1 ∷ 2 ∷ []; slots = []; first_method = 3; methods = 1; read = Some face_parts }

abbrev pub method_of : ℕ → List ℕ → List ℕ → ℕ → Option Kind → ℕ → ℕ → Option Body → List Resolved → List (Option Kind) → List (ℕ × VFrame) → MethodInfo
method_of c name desc flags result max_stack max_locals body found catches maps = record {
  «class» = c;
  name = name;
  desc = desc;
  flags = flags;
  params = [];
  result = result;
  max_stack = max_stack;
  max_locals = max_locals;
  body = body;
  resolved = found;
  catches = catches;
  maps = maps;
}

abbrev pub a_init : MethodInfo
a_init = method_of 0 (codes "<init>") (codes "()V") 0x0001 None 1 1 (Some init_body) (resolved.Nothing ∷ resolved.Method 4 2 ∷ resolved.Nothing ∷ []) [] []

abbrev pub a_m : MethodInfo
a_m = method_of 0 (codes "m") (codes "()I") 0x0001 (Some int_kind) 1 1 (Some m_body) (resolved.Nothing ∷ resolved.Slot 0 0 ∷ resolved.Nothing ∷ []) [] []

abbrev pub main_found : List Resolved
main_found = resolved.Kind (class_kind 0) ∷ resolved.Nothing ∷ resolved.Method 0 0 ∷ resolved.Method 3 1 ∷ resolved.Nothing ∷ resolved.Nothing ∷ resolved.Nothing ∷ resolved.Nothing ∷ []

abbrev pub a_main : MethodInfo
a_main = method_of 0 (codes "main") (codes "()I") 0x0009 (Some int_kind) 2 0 (Some main_body) main_found
    (Some (class_kind 4) ∷ []) ((13, record { locals = []; stack = Class (class_kind 4) ∷ []; this_uninit = false }) ∷ [])

abbrev pub face_m : MethodInfo
face_m = method_of 1 (codes "m") (codes "()I") 0x0401 (Some int_kind) 0 0 None [] [] []

unfoldable pub tables : ProgramTables
tables = record { classes = a_info ∷ face_info ∷ built_in_infos 2 4; methods = (a_init ∷ a_m ∷ a_main ∷ face_m ∷ []) ++ built_in_methods 2 }
