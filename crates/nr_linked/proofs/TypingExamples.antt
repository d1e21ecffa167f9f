-- Small methods, and the first check of each that fails, by computing.
use Rattle.std.proofs.Common.{◌≡◌, refl}
use Rattle.std.specs.Prelude.{ℕ, pos, List, [], ◌∷◌, Option, Some, None, codes}
use Rattle.std.specs.Option.{option_and_then}
use Rattle.nr_optable.specs.Rows.{op, none, one, two}
use Rattle.nr_optable.specs.declared.table.Row.{Row}
use Rattle.nr_optable.specs.declared.table.Family.TheVariants.{F1, F2, F3, F4, F6, F7, F9, F12, F26, F28, F31, F32, F33, F36}
use Rattle.nr_optable.specs.declared.table.Shape.TheVariants as shapes
use Rattle.nr_optable.specs.declared.table.Letter.TheVariants.{I, J, A, R, Null}
use Rattle.nr_optable.specs.declared.table.Kinds.TheVariants.{Own}
use Rattle.nr_prog.specs.declared.body.instruction.Args.{Args}
use Rattle.nr_prog.specs.declared.body.instruction.Args.TheVariants.{Empty, Branch, Inc, Pool}
use Rattle.nr_prog.specs.declared.body.instruction.Instr.{Instr}
use Rattle.nr_prog.specs.declared.member.Handler.{Handler}
use Rattle.nr_linked.specs.declared.program.kind.Base.TheVariants as bases
use Rattle.nr_linked.specs.declared.program.kind.Kind.{Kind}
use Rattle.nr_linked.specs.declared.program.tables.ClassInfo.{ClassInfo}
use Rattle.nr_linked.specs.declared.program.tables.MethodInfo.{MethodInfo}
use Rattle.nr_linked.specs.declared.program.tables.ProgramTables.{ProgramTables}
use Rattle.nr_linked.specs.declared.program.tables.Resolved.{Resolved}
use Rattle.nr_linked.specs.declared.program.tables.Resolved.TheVariants as resolved
use Rattle.nr_linked.specs.declared.program.types.VFrame.{VFrame}
use Rattle.nr_linked.specs.declared.program.types.VType.{VType}
use Rattle.nr_linked.specs.declared.program.types.VType.TheVariants.{Top, Int, Long, UninitThis, Uninit, Class}
use Rattle.nr_linked.specs.declared.typing.fault.OpFault.TheVariants.{NeedsKind, NeedsInit, StackOver, LocalRange}
use Rattle.nr_linked.specs.declared.typing.fault.Wanted.TheVariants as wanted
use Rattle.nr_linked.specs.Kinds.{class_kind}
use Rattle.nr_linked.specs.BuiltIns.{built_in_class}
use Rattle.nr_linked.specs.BuiltInTables.{built_in_tables, built_in_infos, built_in_methods, built_in_info, built_in_method}
use Rattle.nr_linked.specs.Programs.{method_at}
use Rattle.nr_linked.specs.TypingFaults.{first_fault, Op, NoMap, MapMismatch, FallsOff, HandlerMismatch}

-- class 0 has an int field in slot 0, its superclass is Object, which is class 1; method 1 is Object's initialiser
abbrev own_class : ClassInfo
own_class = record {
  name = codes "A";
  flags = 0x21;
  super_class = Some 1;
  interfaces = [];
  supers = 0 ∷ 1 ∷ [];
  slots = record { declared_in = 0; name = codes "f"; desc = codes "I"; kind = record { dims = 0; base = bases.Int } } ∷ [];
  first_method = 0;
  methods = 1;
  read = None;
}

-- a method of it with this name and flags, with an int as its result or none, and these places
abbrev method : List ℕ → ℕ → List Kind → Option Kind → ℕ → ℕ → List (Instr × Resolved) → List (Handler × Option Kind) → List (ℕ × VFrame) → MethodInfo
method name flags params result max_stack max_locals code handlers maps = record {
  «class» = 0;
  name = name;
  desc = [];
  flags = flags;
  params = params;
  result = result;
  max_stack = max_stack;
  max_locals = max_locals;
  body = Some (record { instrs = firsts code; handlers = caught handlers; maps = [] });
  resolved = seconds code;
  catches = kinds handlers;
  maps = maps;
}
  where
    firsts : List (Instr × Resolved) → List Instr
    firsts [] = []
    firsts (e ∷ es) = e.0 ∷ firsts es

    seconds : List (Instr × Resolved) → List Resolved
    seconds [] = []
    seconds (e ∷ es) = e.1 ∷ seconds es

    caught : List (Handler × Option Kind) → List Handler
    caught [] = []
    caught (e ∷ es) = e.0 ∷ caught es

    kinds : List (Handler × Option Kind) → List (Option Kind)
    kinds [] = []
    kinds (e ∷ es) = e.1 ∷ kinds es

abbrev program : MethodInfo → ProgramTables
program m = record { classes = own_class ∷ built_in_infos 1 1; methods = m ∷ built_in_methods 1 }

abbrev fault_of : MethodInfo → Option Rattle.nr_linked.specs.TypingFaults.MethodFault
fault_of m = first_fault (program m) m

abbrev at : ℕ → Row → Args → Instr × Resolved
at offset row a = (record { at = offset; row = row; args = a }, resolved.Nothing)

abbrev found : ℕ → Row → Resolved → Instr × Resolved
found offset row r = (record { at = offset; row = row; args = Pool 1 }, r)

abbrev map : ℕ → List VType → List VType → ℕ × VFrame
map offset locals stack = (offset, record { locals = locals; stack = stack; this_uninit = Rattle.std.proofs.Common.false })

abbrev uninit_map : ℕ → List VType → List VType → ℕ × VFrame
uninit_map offset locals stack = (offset, record { locals = locals; stack = stack; this_uninit = Rattle.std.proofs.Common.true })

abbrev int : Kind
int = record { dims = 0; base = bases.Int }

-- ---- a loop, with its two frame maps, and without the first

abbrev loop : List (ℕ × VFrame) → MethodInfo
loop maps = method (codes "count") 9 (int ∷ []) (Some int) 2 2
    (at 0 (op 3 F2 shapes.Plain none (one I)) Empty ∷  -- iconst_0
    at 1 (op 60 F4 shapes.Plain (one I) none) Empty ∷  -- istore_1
    at 2 (op 27 F3 shapes.Plain none (one I)) Empty ∷  -- iload_1
    at 3 (op 26 F3 shapes.Plain none (one I)) Empty ∷  -- iload_0
    at 4 (op 162 F26 shapes.B2 (two I I) none) (Branch 13) ∷  -- if_icmpge
    at 7 (op 132 F9 shapes.Inc none none) (Inc 1 (pos 1)) ∷  -- iinc
    at 10 (op 167 F28 shapes.B2 none none) (Branch 2) ∷  -- goto
    at 13 (op 27 F3 shapes.Plain none (one I)) Empty ∷  -- iload_1
    at 14 (op 172 F6 shapes.Plain (one I) none) Empty ∷ [])  -- ireturn
    [] maps

pub a_loop : fault_of (loop (map 2 (Int ∷ Int ∷ []) [] ∷ map 13 (Int ∷ Int ∷ []) [] ∷ [])) ≡ None
unfolding built_in_infos built_in_methods built_in_info built_in_method built_in_class
a_loop = refl

pub a_loop_without_its_map : fault_of (loop (map 13 (Int ∷ Int ∷ []) [] ∷ [])) ≡ Some (NoMap 2)
unfolding built_in_infos built_in_methods built_in_info built_in_method built_in_class
a_loop_without_its_map = refl

-- the counter comes as Top
pub a_loop_that_forgets : fault_of (loop (map 2 (Int ∷ []) [] ∷ map 13 (Int ∷ Int ∷ []) [] ∷ [])) ≡ Some (Op 2 (NeedsKind 0 (wanted.Type Int) Top))
unfolding built_in_infos built_in_methods built_in_info built_in_method built_in_class
a_loop_that_forgets = refl

-- ---- a handler that catches all from a null that is thrown, and the same without its map

abbrev caught : List (ℕ × VFrame) → MethodInfo
caught maps = method (codes "catches") 9 [] None 1 0
    (at 0 (op 1 F7 shapes.Plain none (one Null)) Empty ∷  -- aconst_null
    at 1 (op 191 F36 shapes.Plain (one A) none) Empty ∷  -- athrow
    at 2 (op 87 F12 shapes.Plain Own Own) Empty ∷  -- pop
    at 3 (op 177 F6 shapes.Plain none none) Empty ∷ [])  -- return
    ((record { start = 0; end = 2; handler = 2; catch_type = 0 }, None) ∷ []) maps

abbrev throwable : VType
throwable = Class (class_kind 3)

pub a_handler : fault_of (caught (map 2 [] (throwable ∷ []) ∷ [])) ≡ None
unfolding built_in_infos built_in_methods built_in_info built_in_method built_in_class
a_handler = refl

pub a_handler_without_its_map : fault_of (caught []) ≡ Some (HandlerMismatch 0 0)
unfolding built_in_infos built_in_methods built_in_info built_in_method built_in_class
a_handler_without_its_map = refl

-- the handler's map wants an Error, number 4
pub a_handler_of_less : fault_of (caught (map 2 [] (Class (class_kind 5) ∷ []) ∷ [])) ≡ Some (HandlerMismatch 0 0)
unfolding built_in_infos built_in_methods built_in_info built_in_method built_in_class
a_handler_of_less = refl

-- ---- an initialiser that puts a field before it calls that of its superclass

abbrev puts_early : ℕ → List (Instr × Resolved) → MethodInfo
puts_early named rest = method (codes "<init>") 1 [] None 2 1
    (at 0 (op 42 F3 shapes.Plain none (one R)) Empty ∷  -- aload_0
    at 1 (op 4 F2 shapes.Plain none (one I)) Empty ∷  -- iconst_1
    found 2 (op 181 F31 shapes.P2 Own none) (resolved.Slot named 0) ∷ rest)  -- putfield
    [] []

abbrev calls_super : List (Instr × Resolved)
calls_super = at 5 (op 42 F3 shapes.Plain none (one R)) Empty ∷  -- aload_0
    found 6 (op 183 F32 shapes.P2 Own Own) (resolved.Method 1 1) ∷  -- invokespecial
    at 9 (op 177 F6 shapes.Plain none none) Empty ∷ []  -- return

pub a_field_before : fault_of (puts_early 0 calls_super) ≡ None
unfolding built_in_infos built_in_methods built_in_info built_in_method built_in_class
a_field_before = refl

-- without the call `this` isn't initialised at the return
pub a_field_and_no_call : fault_of (puts_early 0 (at 5 (op 177 F6 shapes.Plain none none) Empty ∷ [])) ≡ Some (Op 5 NeedsInit)
unfolding built_in_infos built_in_methods built_in_info built_in_method built_in_class
a_field_and_no_call = refl

-- a getfield so early
pub a_field_read_before : fault_of (method (codes "<init>") 1 [] None 2 1
    (at 0 (op 42 F3 shapes.Plain none (one R)) Empty ∷ found 1 (op 180 Rattle.nr_optable.specs.declared.table.Family.TheVariants.F30 shapes.P2 (one A) Own) (resolved.Slot 0 0) ∷ []) [] [])
    ≡ Some (Op 1 (NeedsKind 0 (wanted.Type (Class (class_kind 0))) UninitThis))
unfolding built_in_infos built_in_methods built_in_info built_in_method built_in_class
a_field_read_before = refl

-- ---- a new object that isn't initialised at a branch

abbrev makes : List VType → MethodInfo
makes stack = method (codes "makes") 9 [] None 1 0
    (found 0 (op 187 F33 shapes.P2 none Own) (resolved.Kind (class_kind 0)) ∷  -- new
    at 3 (op 167 F28 shapes.B2 none none) (Branch 6) ∷  -- goto
    at 6 (op 87 F12 shapes.Plain Own Own) Empty ∷  -- pop
    at 7 (op 177 F6 shapes.Plain none none) Empty ∷ [])  -- return
    [] (map 6 [] stack ∷ [])

pub a_branch_with_a_new_object : fault_of (makes (Uninit 0 ∷ [])) ≡ None
unfolding built_in_infos built_in_methods built_in_info built_in_method built_in_class
a_branch_with_a_new_object = refl

pub a_branch_that_takes_it_for_initialised : fault_of (makes (Class (class_kind 0) ∷ [])) ≡ Some (MapMismatch 6)
unfolding built_in_infos built_in_methods built_in_info built_in_method built_in_class
a_branch_that_takes_it_for_initialised = refl

-- the same `new` again, with its earlier object on the stack
pub a_new_object_twice : fault_of (method (codes "twice") 9 [] None 2 0
    (at 0 (op 0 F1 shapes.Plain none none) Empty ∷ at 1 (op 167 F28 shapes.B2 none none) (Branch 7) ∷
    found 4 (op 187 F33 shapes.P2 none Own) (resolved.Kind (class_kind 0)) ∷ at 7 (op 167 F28 shapes.B2 none none) (Branch 7) ∷ [])
    [] (map 4 [] (Uninit 4 ∷ []) ∷ map 7 [] [] ∷ [])) ≡ Some (Op 4 NeedsInit)
unfolding built_in_infos built_in_methods built_in_info built_in_method built_in_class
a_new_object_twice = refl

-- ---- a long where Top is, on the stack and in a local variable

abbrev longs : List (Instr × Resolved) → List VType → List VType → MethodInfo
longs between locals stack = method (codes "longs") 9 [] None 2 2
    (at 0 (op 9 F2 shapes.Plain none (one J)) Empty ∷ between)  -- lconst_0
    [] (map 5 locals stack ∷ [])

pub a_long_over_top : fault_of (longs (at 2 (op 167 F28 shapes.B2 none none) (Branch 5) ∷ at 5 (op 89 F12 shapes.Plain Own Own) Empty ∷ []) [] (Top ∷ [])) ≡ Some (MapMismatch 5)
unfolding built_in_infos built_in_methods built_in_info built_in_method built_in_class
a_long_over_top = refl

pub a_long_over_a_local : fault_of (longs (at 1 (op 63 F4 shapes.Plain (one J) none) Empty ∷ at 2 (op 167 F28 shapes.B2 none none) (Branch 5) ∷ at 5 (op 177 F6 shapes.Plain none none) Empty ∷ []) (Top ∷ []) []) ≡ None
unfolding built_in_infos built_in_methods built_in_info built_in_method built_in_class
a_long_over_a_local = refl

-- a store into its second half
pub half_a_long : fault_of (longs (at 1 (op 63 F4 shapes.Plain (one J) none) Empty ∷ at 2 (op 3 F2 shapes.Plain none (one I)) Empty ∷
    at 3 (op 60 F4 shapes.Plain (one I) none) Empty ∷ at 4 (op 30 F3 shapes.Plain none (one J)) Empty ∷ at 5 (op 177 F6 shapes.Plain none none) Empty ∷ []) [] [])
    ≡ Some (Op 4 (NeedsKind 0 (wanted.Type Long) Top))
unfolding built_in_infos built_in_methods built_in_info built_in_method built_in_class
half_a_long = refl

-- ---- ends

abbrev only : Row → MethodInfo
only row = method (codes "ends") 9 [] None 0 0 (at 0 row Empty ∷ []) [] []

pub falls_off : fault_of (only (op 0 F1 shapes.Plain none none)) ≡ Some (FallsOff 0)
unfolding built_in_infos built_in_methods built_in_info built_in_method built_in_class
falls_off = refl

pub no_room : fault_of (only (op 3 F2 shapes.Plain none (one I))) ≡ Some (Op 0 StackOver)
unfolding built_in_infos built_in_methods built_in_info built_in_method built_in_class
no_room = refl

pub no_local : fault_of (only (op 27 F3 shapes.Plain none (one I))) ≡ Some (Op 0 (LocalRange 1))
unfolding built_in_infos built_in_methods built_in_info built_in_method built_in_class
no_local = refl

-- ---- methods without code: an abstract one, and a built-in initialiser

pub an_abstract_method : fault_of (record (only (op 0 F1 shapes.Plain none none)) { flags = 0x0401; body = None; resolved = [] }) ≡ None
unfolding built_in_infos built_in_methods built_in_info built_in_method built_in_class
an_abstract_method = refl

pub a_built_in_initialiser : option_and_then (λ m. first_fault built_in_tables m) (method_at built_in_tables 0) ≡ None
unfolding built_in_infos built_in_methods built_in_info built_in_method built_in_class built_in_tables
a_built_in_initialiser = refl
