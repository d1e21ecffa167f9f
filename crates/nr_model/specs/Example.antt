-- A remote call that is worked out, with its program and its heaps:
--     class Box { int[] row; int value; }
--     static Box call(int[][] a, int[][] b, Box c) { a[0][0] = 5; b[0] = new int[1]; c.value = 3; return c; }
-- The first two arguments are one array, which the call restores; the third is passed by copy, and its row is shared with
-- that array. The call cuts the first row loose, puts a new one in its place, and returns its copy of the box.
--     static void main(int[][] a, int[][] b, Box c) { call(a, b, c); }
--     static int[][] same(int[][] a) { return a; }
--     static void relay(int[][] a) { same(a); }
-- Where class Box is the service, main makes this one remote call, and relay one whose only argument is restored.
use Rattle.std.specs.Prelude.{ℕ, List, [], ◌∷◌, map, find, ◌==◌, pos, Option, Some, None, codes}
use Rattle.std.specs.Option.{unwrap_or}
use Rattle.std.specs.FinMap.{from_entries}
use Rattle.nr_optable.specs.Rows.{op, none, all_rows}
use Rattle.nr_optable.specs.declared.table.Family.TheVariants.{F1}
use Rattle.nr_optable.specs.declared.table.Row.{Row}
use Rattle.nr_optable.specs.declared.table.Shape.TheVariants.{Plain}
use Rattle.nr_prog.specs.declared.body.instruction.Args.{Args}
use Rattle.nr_prog.specs.declared.body.instruction.Args.TheVariants.{Empty, Pool, Prim}
use Rattle.nr_prog.specs.declared.body.instruction.Instr.{Instr}
use Rattle.nr_linked.specs.declared.program.kind.Base.TheVariants as bases
use Rattle.nr_linked.specs.declared.program.kind.Kind.{Kind}
use Rattle.nr_linked.specs.declared.program.tables.ClassInfo.{ClassInfo}
use Rattle.nr_linked.specs.declared.program.tables.MethodInfo.{MethodInfo}
use Rattle.nr_linked.specs.declared.program.tables.ProgramTables.{ProgramTables}
use Rattle.nr_linked.specs.declared.program.tables.Resolved.{Resolved}
use Rattle.nr_linked.specs.declared.program.tables.Resolved.TheVariants.{Method, Nothing, Slot}
use Rattle.nr_linked.specs.declared.program.tables.SlotInfo.{SlotInfo}
use Rattle.nr_linked.specs.BuiltInTables.{built_in_infos, built_in_methods}
use Rattle.nr_linked.specs.Kinds.{class_kind}
use Rattle.nr_model.specs.declared.value.Value.{Value}
use Rattle.nr_model.specs.declared.value.Value.TheVariants.{Int, Ref}
use Rattle.nr_model.specs.Heaps.{Obj, Heap}
use Rattle.nr_model.specs.States.{Returned, State}
use Rattle.nr_model.specs.Locals.{start_of}
use Rattle.nr_model.specs.Asks.{Answered, Faulted, Entry}

-- ---- the program

-- the row of a code in the table of instructions
abbrev pub row_of : ℕ → Row
row_of code = unwrap_or (find (λ r. r.code == code) all_rows) (op 0 F1 Plain none none)

abbrev pub at : ℕ → ℕ → Args → Instr
at offset code a = record { at = offset; row = row_of code; args = a }

-- int, int[] and so on
abbrev pub ints : ℕ → Kind
ints dims = record { dims = dims; base = bases.Int }

abbrev pub slot : List ℕ → List ℕ → ℕ → SlotInfo
slot name desc dims = record { declared_in = 0; name = name; desc = desc; kind = ints dims }

abbrev pub box_class : ClassInfo
box_class = record {
  name = codes "Box";
  flags = 0x0021;
  super_class = Some 1;
  interfaces = [];
  supers = 0 ∷ 1 ∷ [];
  slots = slot (codes "row") (codes "[I") 1 ∷ slot (codes "value") (codes "I") 0 ∷ [];
  first_method = 0;
  methods = 4;
  read = None;
}

abbrev pub method : MethodInfo
method = record {
  «class» = 0;
  name = codes "call";
  desc = codes "([[I[[ILBox;)LBox;";
  flags = 0x0009;
  params = ints 2 ∷ ints 2 ∷ class_kind 0 ∷ [];
  result = Some (class_kind 0);
  max_stack = 3;
  max_locals = 3;
  body = Some (record {
    -- aload_0, iconst_0, aaload, iconst_0, iconst_5, iastore
    instrs = at 0 42 Empty ∷ at 1 3 Empty ∷ at 2 50 Empty ∷ at 3 3 Empty ∷ at 4 8 Empty ∷ at 5 79 Empty
        -- aload_1, iconst_0, iconst_1, newarray int, aastore
        ∷ at 6 43 Empty ∷ at 7 3 Empty ∷ at 8 4 Empty ∷ at 9 188 (Prim 10) ∷ at 11 83 Empty
        -- aload_2, iconst_3, putfield value, aload_2, areturn
        ∷ at 12 44 Empty ∷ at 13 6 Empty ∷ at 14 181 (Pool 1) ∷ at 17 44 Empty ∷ at 18 176 Empty ∷ [];
    handlers = [];
    maps = [];
  });
  resolved = Nothing ∷ Nothing ∷ Nothing ∷ Nothing ∷ Nothing ∷ Nothing ∷ Nothing ∷ Nothing ∷ Nothing ∷ Nothing ∷ Nothing
      ∷ Nothing ∷ Nothing ∷ Slot 0 1 ∷ Nothing ∷ Nothing ∷ [];
  catches = [];
  maps = [];
}

abbrev pub main : MethodInfo
main = record {
  «class» = 0;
  name = codes "main";
  desc = codes "([[I[[ILBox;)V";
  flags = 0x0009;
  params = ints 2 ∷ ints 2 ∷ class_kind 0 ∷ [];
  result = None;
  max_stack = 3;
  max_locals = 3;
  body = Some (record {
    -- aload_0, aload_1, aload_2, invokestatic call, pop, return
    instrs = at 0 42 Empty ∷ at 1 43 Empty ∷ at 2 44 Empty ∷ at 3 184 (Pool 1) ∷ at 6 87 Empty ∷ at 7 177 Empty ∷ [];
    handlers = [];
    maps = [];
  });
  resolved = Nothing ∷ Nothing ∷ Nothing ∷ Method 0 0 ∷ Nothing ∷ Nothing ∷ [];
  catches = [];
  maps = [];
}

-- a public static method of one array of rows, without handlers
abbrev pub of_rows : List ℕ → List ℕ → Option Kind → List Instr → List Resolved → MethodInfo
of_rows name desc result instrs found = record {
  «class» = 0;
  name = name;
  desc = desc;
  flags = 0x0009;
  params = ints 2 ∷ [];
  result = result;
  max_stack = 1;
  max_locals = 1;
  body = Some (record { instrs = instrs; handlers = []; maps = [] });
  resolved = found;
  catches = [];
  maps = [];
}

-- aload_0, areturn
abbrev pub same : MethodInfo
same = of_rows (codes "same") (codes "([[I)[[I") (Some (ints 2)) (at 0 42 Empty ∷ at 1 176 Empty ∷ []) (Nothing ∷ Nothing ∷ [])

-- aload_0, invokestatic same, pop, return
abbrev pub relay : MethodInfo
relay = of_rows (codes "relay") (codes "([[I)V") None (at 0 42 Empty ∷ at 1 184 (Pool 2) ∷ at 4 87 Empty ∷ at 5 177 Empty ∷ [])
    (Nothing ∷ Method 2 0 ∷ Nothing ∷ Nothing ∷ [])

abbrev pub example : ProgramTables
example = record { classes = box_class ∷ built_in_infos 1 4; methods = method ∷ main ∷ same ∷ relay ∷ built_in_methods 1 }

-- ---- the heaps, as lists of names and objects

abbrev pub rows : List ℕ → Obj
rows names = record { kind = ints 2; slots = map Ref names }

abbrev pub row : ℕ → Obj
row n = record { kind = ints 1; slots = Int (pos n) ∷ [] }

abbrev pub box : ℕ → ℕ → Obj
box name n = record { kind = class_kind 0; slots = Ref name ∷ Int (pos n) ∷ [] }

-- the caller's; the array 5 isn't passed
abbrev pub before : List (ℕ × Obj)
before = (1, rows (2 ∷ 3 ∷ [])) ∷ (2, row 7) ∷ (3, row 8) ∷ (4, box 3 1) ∷ (5, rows (2 ∷ [])) ∷ []

-- with the copy of the box
abbrev pub copied : List (ℕ × Obj)
copied = (6, box 3 1) ∷ before

-- what the local run leaves
abbrev pub left : List (ℕ × Obj)
left = (1, rows (7 ∷ 3 ∷ [])) ∷ (2, row 5) ∷ (3, row 8) ∷ (4, box 3 1) ∷ (5, rows (2 ∷ [])) ∷ (6, box 3 3) ∷ (7, row 0) ∷ []

-- the other machine's, before and after
abbrev pub other_before : List (ℕ × Obj)
other_before = (11, rows (12 ∷ 13 ∷ [])) ∷ (12, row 7) ∷ (13, row 8) ∷ (14, box 13 1) ∷ []

abbrev pub other_left : List (ℕ × Obj)
other_left = (11, rows (15 ∷ 13 ∷ [])) ∷ (12, row 5) ∷ (13, row 8) ∷ (14, box 13 3) ∷ (15, row 0) ∷ []

-- the caller's after the restore
abbrev pub restored : List (ℕ × Obj)
restored = (1, rows (8 ∷ 3 ∷ [])) ∷ (2, row 5) ∷ (3, row 8) ∷ (4, box 3 1) ∷ (5, rows (2 ∷ [])) ∷ (8, row 0) ∷ (9, box 3 3) ∷ []

abbrev pub heap : List (ℕ × Obj) → Heap
heap es = from_entries es

-- ---- the call, with its arguments the last first

abbrev pub args : List Value
args = Ref 4 ∷ Ref 1 ∷ Ref 1 ∷ []

abbrev pub copied_args : List Value
copied_args = Ref 6 ∷ Ref 1 ∷ Ref 1 ∷ []

abbrev pub other_args : List Value
other_args = Ref 14 ∷ Ref 11 ∷ Ref 11 ∷ []

-- the names on the caller's side beside those on the other
abbrev pub pairs : List (ℕ × ℕ)
pairs = (1, 11) ∷ (2, 12) ∷ (3, 13) ∷ (6, 14) ∷ []

abbrev pub start : List (ℕ × Obj) → List Value → State
start es vs = start_of method 0 (heap es) vs

abbrev pub end_with : List (ℕ × Obj) → ℕ → State
end_with es name = record { heap = heap es; control = Returned (Some (Ref name)); printed = [] }

-- the remote call, as it was answered with a heap and the name of a box
abbrev pub answered : List (ℕ × Obj) → ℕ → Entry
answered es name = record { method = 0; args = args; before = heap before; answer = Answered (heap es) (Some (Ref name)) [] }

-- by the restore
abbrev pub call : Entry
call = answered restored 9

-- by the local run itself
abbrev pub own_call : Entry
own_call = answered left 6

-- the same call, met by a fault
abbrev pub faulted_call : Entry
faulted_call = record { method = 0; args = args; before = heap before; answer = Faulted 6 }

-- ---- a machine that runs main, and asks class 0

abbrev pub service : Option ℕ
service = Some 0

abbrev pub main_start : State
main_start = start_of main 1 (heap before) args

abbrev pub main_end : List (ℕ × Obj) → State
main_end es = record { heap = heap es; control = Returned None; printed = [] }

-- ---- a machine that runs relay

abbrev pub same_call : Entry
same_call = record { method = 2; args = Ref 1 ∷ []; before = heap before; answer = Answered (heap before) (Some (Ref 1)) [] }

abbrev pub relay_start : State
relay_start = start_of relay 3 (heap before) (Ref 1 ∷ [])
