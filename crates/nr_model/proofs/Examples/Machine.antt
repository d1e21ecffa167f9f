-- The program and the states of the examples:
--     class Square implements Shape { byte side; int area() { .. } }
--     class Cube extends Square { int area() { .. } }
--     interface Shape { int area(); }
--     class Blob implements Shape { }
-- The method that is tried is static, of class Square, with the number 0.
use Rattle.std.proofs.Common.{◌≡◌, ℕ, ◌+◌, List, [], ◌∷◌, refl, sym, subst}
use Rattle.std.specs.Prelude.{Option, Some, None, IsSomeAnd, codes}
use Rattle.std.specs.FinMap.{get, insert}
use Rattle.nr_optable.specs.declared.table.Family.TheVariants.{F1}
use Rattle.nr_optable.specs.declared.table.Shape.TheVariants.{Plain}
use Rattle.nr_optable.specs.Rows.{op, none}
use Rattle.nr_prog.specs.declared.body.instruction.Args.{Args}
use Rattle.nr_prog.specs.declared.body.instruction.Args.TheVariants as args
use Rattle.nr_prog.specs.declared.body.instruction.Instr.{Instr}
use Rattle.nr_prog.specs.declared.body.whole.Body.{Body}
use Rattle.nr_prog.specs.declared.member.Handler.{Handler}
use Rattle.nr_linked.specs.declared.program.kind.Base.{Base}
use Rattle.nr_linked.specs.declared.program.kind.Base.TheVariants as bases
use Rattle.nr_linked.specs.declared.program.kind.Kind.{Kind}
use Rattle.nr_linked.specs.declared.program.tables.ClassInfo.{ClassInfo}
use Rattle.nr_linked.specs.declared.program.tables.MethodInfo.{MethodInfo}
use Rattle.nr_linked.specs.declared.program.tables.ProgramTables.{ProgramTables}
use Rattle.nr_linked.specs.declared.program.tables.Resolved.{Resolved}
use Rattle.nr_linked.specs.declared.program.tables.Resolved.TheVariants as resolved
use Rattle.nr_linked.specs.declared.program.tables.SlotInfo.{SlotInfo}
use Rattle.nr_linked.specs.BuiltInTables.{built_in_infos, built_in_methods}
use Rattle.nr_linked.specs.BuiltIns.{number}
use Rattle.nr_linked.specs.declared.program.built_in.BuiltIn.{BuiltIn}
use Rattle.nr_linked.specs.Kinds.{class_kind}
use Rattle.nr_model.specs.declared.value.Value.{Value}
use Rattle.nr_model.specs.declared.value.Value.TheVariants.{Ref}
use Rattle.nr_model.specs.Heaps.{Obj, Heap}
use Rattle.nr_model.specs.Example.{row_of}
use Rattle.nr_model.specs.Scripts.{Within, Ending, GoesTo, Threw, Runs, new_object, with_slot}
use Rattle.nr_model.specs.States.{Frame, Running, State}
use Rattle.nr_model.specs.Steps.{script_at, Step}

-- ---- the program

abbrev pub of_base : ℕ → Base → Kind
of_base n b = record { dims = n; base = b }

abbrev pub int_kind : Kind
int_kind = of_base 0 bases.Int

abbrev class_info : List ℕ → ℕ → Option ℕ → List ℕ → List ℕ → List SlotInfo → ℕ → ℕ → ClassInfo
class_info name flags above interfaces supers slots first count = record {
  name = name;
  flags = flags;
  super_class = above;
  interfaces = interfaces;
  supers = supers;
  slots = slots;
  first_method = first;
  methods = count;
  read = None;
}

abbrev side : SlotInfo
side = record { declared_in = 0; name = codes "side"; desc = codes "B"; kind = of_base 0 bases.Byte }

abbrev square : ClassInfo
square = class_info (codes "Square") 0x0021 (Some 4) (2 ∷ []) (0 ∷ 4 ∷ 2 ∷ []) (side ∷ []) 0 2

abbrev cube : ClassInfo
cube = class_info (codes "Cube") 0x0021 (Some 0) [] (1 ∷ 0 ∷ 4 ∷ 2 ∷ []) (side ∷ []) 2 1

abbrev shape : ClassInfo
shape = class_info (codes "Shape") 0x0601 (Some 4) [] (2 ∷ 4 ∷ []) [] 3 1

abbrev blob : ClassInfo
blob = class_info (codes "Blob") 0x0021 (Some 4) (2 ∷ []) (3 ∷ 4 ∷ 2 ∷ []) [] 4 0

abbrev pub body_of : List Instr → List Handler → Body
body_of instrs handlers = record { instrs = instrs; handlers = handlers; maps = [] }

abbrev area : ℕ → ℕ → Option Body → MethodInfo
area c flags body = record {
  «class» = c;
  name = codes "area";
  desc = codes "()I";
  flags = flags;
  params = [];
  result = Some int_kind;
  max_stack = 2;
  max_locals = 1;
  body = body;
  resolved = [];
  catches = [];
  maps = [];
}

abbrev tried : Body → List Resolved → List (Option Kind) → MethodInfo
tried body found catches = record {
  «class» = 0;
  name = codes "tried";
  desc = codes "()V";
  flags = 0x0009;
  params = [];
  result = None;
  max_stack = 9;
  max_locals = 4;
  body = Some body;
  resolved = found;
  catches = catches;
  maps = [];
}

abbrev pub program : Body → List Resolved → List (Option Kind) → ProgramTables
program body found catches = record {
  classes = square ∷ cube ∷ shape ∷ blob ∷ built_in_infos 4 4;
  methods = tried body found catches ∷ area 0 0x0001 (Some (body_of [] [])) ∷ area 1 0x0001 (Some (body_of [] [])) ∷ area 2 0x0401 None ∷ built_in_methods 4;
}

-- the number of a built-in class
abbrev pub built : BuiltIn → ℕ
built b = 4 + number b

-- ---- one instruction, which stands at 0; the next stands at 8

abbrev pub instr : ℕ → Args → Instr
instr code a = record { at = 0; row = row_of code; args = a }

abbrev nop : Instr
nop = record { at = 8; row = op 0 F1 Plain none none; args = args.Empty }

abbrev pub alone : Instr → Resolved → ProgramTables
alone i found = program (body_of (i ∷ nop ∷ []) []) (found ∷ resolved.Nothing ∷ []) []

abbrev pub frame_at : ℕ → List Value → List Value → Frame
frame_at offset locals operands = record { method = 0; offset = offset; locals = locals; operands = operands }

abbrev pub running : Heap → List Frame → State
running h fs = record { heap = h; control = Running fs; printed = [] }

abbrev pub left_in : Heap → List Value → List Value → List ℕ → Within
left_in h locals operands printed = record { heap = h; locals = locals; operands = operands; printed = printed }

-- the instruction, in this heap, leads from these locals and operands, the topmost first, to the offset and those, and
-- prints these bytes
abbrev pub Leads : Instr → Resolved → Heap → List Value → List Value → ℕ → List Value → List Value → List ℕ → Type 0
Leads i found h locals operands offset locals' operands' printed =
    IsSomeAnd (script_at (alone i found) 0 0) (λ sc. Runs sc (left_in h locals operands []) (GoesTo offset) (left_in h locals' operands' printed))

pub some_map : {X : Type 0} (o : Option X) (A B : X → Type 0) → ((x : X) → A x → B x) → IsSomeAnd o A → IsSomeAnd o B
some_map None A B k p = absurd p
some_map (Some x) A B k p = k x p

-- so there is a step
pub leads_step : (i : Instr) (found : Resolved) (h : Heap) (locals operands : List Value) (offset : ℕ) (locals' operands' : List Value) (printed : List ℕ)
    → Leads i found h locals operands offset locals' operands' printed
    → Step (alone i found) (running h (frame_at 0 locals operands ∷ [])) (record { heap = h; control = Running (frame_at offset locals' operands' ∷ []); printed = printed })
leads_step i found h locals operands offset locals' operands' printed p =
    some_map (script_at (alone i found) 0 0) _ _ (λ sc p. record {
      ending = GoesTo offset;
      left = left_in h locals' operands' printed;
      runs = p;
      control = refl;
      heap = refl;
      printed = refl;
    }) p

-- the instruction throws a new object of the built-in class, whatever its name, and no frame handles it
abbrev pub Throws : Instr → Resolved → Heap → List Value → List Value → BuiltIn → Type 0
Throws i found h locals operands b = (a : ℕ) → get h a ≡ None
    → (w : Within) × IsSomeAnd (script_at (alone i found) 0 0) (λ sc. Runs sc (left_in h locals operands []) (Threw a) w) × (w.heap ≡ insert h a (new_object (class_kind (built b)) []))

-- the instruction takes these operands and puts the value into the slot of the object of this name
abbrev pub Wrote : Instr → Resolved → Heap → List Value → ℕ → Obj → ℕ → Value → Type 0
Wrote i found h operands a o slot v =
    IsSomeAnd (script_at (alone i found) 0 0) (λ sc. Runs sc (left_in h [] operands []) (GoesTo 8) (left_in (with_slot h a o slot v) [] [] []))

-- the instruction takes these operands and gives the new object, whatever its name
abbrev pub Makes : Instr → Resolved → Heap → List Value → Obj → Type 0
Makes i found h operands o = (a : ℕ) → get h a ≡ None
    → IsSomeAnd (script_at (alone i found) 0 0) (λ sc. Runs sc (left_in h [] operands []) (GoesTo 8) (left_in (insert h a o) [] (Ref a ∷ []) []))

-- what the heap holds
pub held : (h : Heap) (a : ℕ) (o : Obj) (A : Obj → Type 0) → get h a ≡ Some o → A o → IsSomeAnd (get h a) A
held h a o A e p = subst (λ o. IsSomeAnd o A) (sym e) p

-- no run of the instruction leads on
abbrev pub NoRule : Instr → Resolved → Heap → List Value → List Value → Type 0
NoRule i found h locals operands = (e : Ending) (w : Within) → IsSomeAnd (script_at (alone i found) 0 0) (λ sc. Runs sc (left_in h locals operands []) e w) → ⊥
