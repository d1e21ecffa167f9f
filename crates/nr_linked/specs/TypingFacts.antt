-- What typing takes of a linked program: facts of its tables, beside those that say how they are laid out.
use Rattle.std.specs.Prelude.{◌≡◌, ℕ, ◌≤◌, List, [], ◌∷◌, length, Bool, true, false, not, ◌&&◌, ◌==◌, Some, None, slice_get, IsTrue, Contains}
use Rattle.std.specs.Option.{option_map_or}
use Rattle.nr_optable.specs.declared.table.Family.{Family}
use Rattle.nr_optable.specs.declared.table.Family.TheVariants.{F8, F32, F33}
use Rattle.nr_optable.specs.declared.table.Letter.{Letter}
use Rattle.nr_optable.specs.declared.table.Letter.TheVariants as letters
use Rattle.nr_optable.specs.declared.table.Shape.{Shape}
use Rattle.nr_optable.specs.declared.table.Shape.TheVariants as shapes
use Rattle.nr_optable.specs.Rows.{all_rows}
use Rattle.nr_prog.specs.declared.body.instruction.Args.{Args}
use Rattle.nr_prog.specs.declared.body.instruction.Args.TheVariants as args
use Rattle.nr_prog.specs.declared.body.whole.Body.{Body}
use Rattle.nr_linked.specs.declared.program.built_in.BuiltIn.{BuiltIn}
use Rattle.nr_linked.specs.declared.program.built_in.BuiltIn.TheVariants as built_ins
use Rattle.nr_linked.specs.declared.program.kind.Kind.{Kind}
use Rattle.nr_linked.specs.declared.program.tables.MethodInfo.{MethodInfo}
use Rattle.nr_linked.specs.declared.program.tables.ProgramTables.{ProgramTables}
use Rattle.nr_linked.specs.declared.program.tables.Resolved.{Resolved}
use Rattle.nr_linked.specs.declared.program.tables.Resolved.TheVariants as resolved
use Rattle.nr_linked.specs.declared.program.tables.SlotInfo.{SlotInfo}
use Rattle.nr_prog.specs.Members.{is_abstract, is_static}
use Rattle.nr_linked.specs.Kinds.{class_kind}
use Rattle.nr_linked.specs.BuiltIns.{BuiltInMethod, built_in, built_in_class}
use Rattle.nr_linked.specs.Programs.{class_at, method_at, is_interface, super_of}
use Rattle.nr_linked.specs.Slots.{slots_of}
use Rattle.nr_linked.specs.Selection.{is_private, selected}
use Rattle.nr_linked.specs.Sites.{Site, site_at}
use Rattle.nr_linked.specs.Subtypes.{is_above, admits_any, is_assignable}
use Rattle.nr_linked.specs.Initialisers.{is_initialiser}
use Rattle.nr_linked.specs.TypingChecks.{letters_of}

-- ---- instructions

-- the operands are those of the shape (6.5, each instruction's format)
abbrev pub is_shaped : Shape → Args → Bool
is_shaped shapes.Plain args.Empty = true
is_shaped shapes.L1 (args.Local i) = true
is_shaped shapes.S1 (args.Num n) = true
is_shaped shapes.S2 (args.Num n) = true
is_shaped shapes.P1 (args.Pool i) = true
is_shaped shapes.P2 (args.Pool i) = true
is_shaped shapes.B2 (args.Branch t) = true
is_shaped shapes.B4 (args.Branch t) = true
is_shaped shapes.Inc (args.Inc i by) = true
is_shaped shapes.Prim (args.Prim code) = true
is_shaped shapes.Itf (args.Pool i) = true
is_shaped shapes.Mul (args.Dims i n) = true
is_shaped shapes.Tab (args.Switch other low ts) = true
is_shaped shapes.Look (args.Look other keys ts) = true
is_shaped shapes.Wide (args.Wide code i) = true
is_shaped shapes.Wide (args.WideInc i by) = true
is_shaped shape a = false

-- the constant that a load of the pool pushes is of the row's type
abbrev pub is_constant : List Letter → Resolved → Bool
is_constant (letters.I ∷ []) (resolved.Int n) = true
is_constant (letters.J ∷ []) (resolved.Long n) = true
is_constant ls found = false

abbrev pub has_constant : Family → List Letter → Resolved → Bool
has_constant F8 ls found = is_constant ls found
has_constant family ls found = true

-- ---- classes that can have objects

-- the class is neither an interface nor abstract
abbrev pub is_makeable : ProgramTables → ℕ → Bool
is_makeable P c = option_map_or (λ e. not (is_abstract e.flags)) (class_at P c) false && not (is_interface P c)

-- the throwables of the machine's own throws (2.10), and the one that a remote call throws where it answers a fault
abbrev pub is_thrown : BuiltIn → Bool
is_thrown built_ins.ArithmeticException = true
is_thrown built_ins.ArrayStoreException = true
is_thrown built_ins.ClassCastException = true
is_thrown built_ins.NegativeArraySizeException = true
is_thrown built_ins.NullPointerException = true
is_thrown built_ins.ArrayIndexOutOfBoundsException = true
is_thrown built_ins.IncompatibleClassChangeError = true
is_thrown built_ins.AbstractMethodError = true
is_thrown built_ins.RemoteFault = true
is_thrown b = false

-- ---- calls

-- the method j, selected for method i and a receiver of class c
pub record Selected (P : ProgramTables) (i : MethodInfo) (c : ℕ) (j : MethodInfo) : Type 0 where
  pub above : IsTrue (is_above P c j.«class»)
  pub params : i.params ≡ j.params
  pub result : i.result ≡ j.result

-- the call with this code, in a method of class own, of a method that the class c has (5.4.3.3, 5.4.3.4, and 6.5)
pub record CallFacts (P : ProgramTables) (own code c : ℕ) (callee : MethodInfo) : Type 0 where
  -- invokestatic (184) calls static methods, and the others call no static one
  pub static : is_static callee.flags ≡ (code == 184)
  -- invokespecial (183) alone calls an initialiser, which the named class declares, and which gives nothing
  pub initialiser : IsTrue (is_initialiser callee) → (code ≡ 183) × (callee.«class» ≡ c) × (callee.result ≡ None)
  -- a private method is of the named class or of one above it
  pub private : IsTrue (is_private callee.flags) → IsTrue (is_above P c callee.«class»)
  -- invokespecial of another method names the class that holds the code, or one above it
  pub ancestor : code ≡ 183 → is_initialiser callee ≡ false → IsTrue (is_above P own c)

-- a method without code of the built-in classes that has a rule
pub record BuiltInFacts (P : ProgramTables) (i : MethodInfo) : Type 0 where
  -- a method of nrmi/Out is one of those of the table
  pub out : i.«class» ≡ built_in P built_ins.Out
      → IsTrue (is_static i.flags) × (i.result ≡ None) × (m : BuiltInMethod) × Contains (built_in_class built_ins.Out).methods m × (i.name ≡ m.name) × (i.desc ≡ m.desc) × (i.params ≡ m.params)
  -- an initialiser takes nothing
  pub initialiser : IsTrue (is_initialiser i) → i.params ≡ []

-- ---- an instruction at a site of a method of class own

pub record SiteFacts (P : ProgramTables) (own : ℕ) (s : Site) : Type 0 where
  -- its row stands in the table, with operands of the row's shape
  pub row : Contains all_rows s.instr.row
  pub shaped : IsTrue (is_shaped s.instr.row.shape s.instr.args)
  pub constant : IsTrue (has_constant s.instr.row.family (letters_of s.instr.row.pushes) s.resolved)
  -- a kind that it names is one of the program
  pub kind : (k : Kind) → s.resolved ≡ resolved.Kind k → IsTrue (is_assignable P k k)
  -- `new` names a class that can have objects
  pub made : s.instr.row.family ≡ F33 → (k : Kind) → s.resolved ≡ resolved.Kind k → (c : ℕ) × (k ≡ class_kind c) × IsTrue (is_makeable P c)
  -- anewarray (189) names elements of at most 254 dimensions: their array has at most 255
  pub elements : s.instr.row.code ≡ 189 → (k : Kind) → s.resolved ≡ resolved.Kind k → k.dims ≤ 254
  -- multianewarray names an array of as many dimensions as it has counts, at least one
  pub dimensions : (i n : ℕ) (k : Kind) → s.instr.args ≡ args.Dims i n → s.resolved ≡ resolved.Kind k → (1 ≤ n) × (n ≤ k.dims)
  pub call : s.instr.row.family ≡ F32 → (n c : ℕ) (callee : MethodInfo) → s.resolved ≡ resolved.Method n c → method_at P n ≡ Some callee
      → CallFacts P own s.instr.row.code c callee

-- ---- the program

pub record TypingFacts (P : ProgramTables) : Type 0 where
  -- what stands above a class or an interface: the relation is transitive, and holds the superclass
  pub above_above : (c d e : ℕ) → IsTrue (is_above P c d) → IsTrue (is_above P d e) → IsTrue (is_above P c e)
  pub super_above : (c d : ℕ) → super_of P c ≡ Some d → IsTrue (is_above P c d)
  -- above java/lang/Object and above interfaces nothing but such stands
  pub any_up : (d e : ℕ) → IsTrue (admits_any P d) → IsTrue (is_above P d e) → IsTrue (admits_any P e)
  -- what arrays implement are interfaces
  pub cloneable : IsTrue (is_interface P (built_in P built_ins.Cloneable))
  pub serializable : IsTrue (is_interface P (built_in P built_ins.Serializable))
  -- what the machine throws is a throwable and can have objects, and not every reference is a throwable
  pub throwable : admits_any P (built_in P built_ins.Throwable) ≡ false
  pub thrown : (b : BuiltIn) → IsTrue (is_thrown b) → IsTrue (is_above P (built_in P b) (built_in P built_ins.Throwable)) × IsTrue (is_makeable P (built_in P b))
  -- a class has its slots from the class that declares their fields on, at the same places; Object and interfaces have none
  pub inherited : (c d i : ℕ) (s : SlotInfo) → IsTrue (is_above P c d) → slice_get (slots_of P d) i ≡ Some s → slice_get (slots_of P c) i ≡ Some s
  pub declared : (c i : ℕ) (s : SlotInfo) → slice_get (slots_of P c) i ≡ Some s
      → IsTrue (is_above P c s.declared_in) × (slice_get (slots_of P s.declared_in) i ≡ Some s)
  pub slotted : (c i : ℕ) (s : SlotInfo) → slice_get (slots_of P c) i ≡ Some s → admits_any P c ≡ false
  -- a class stands above itself
  pub makeable : (c : ℕ) → IsTrue (is_makeable P c) → IsTrue (is_above P c c)
  pub own : (n : ℕ) (i : MethodInfo) (body : Body) → method_at P n ≡ Some i → i.body ≡ Some body → IsTrue (is_above P i.«class» i.«class»)
  -- the method that is selected for one that is neither static nor private stands at or above the receiver's class, and has
  -- the descriptor of the other
  pub selects : (n c k : ℕ) (i j : MethodInfo) → method_at P n ≡ Some i → is_static i.flags ≡ false → is_private i.flags ≡ false → selected P n c ≡ Some k → method_at P k ≡ Some j
      → Selected P i c j
  pub built_ins : (n : ℕ) (i : MethodInfo) → method_at P n ≡ Some i → i.body ≡ None → BuiltInFacts P i
  -- something was found for each instruction
  pub one_each : (n : ℕ) (i : MethodInfo) (body : Body) → method_at P n ≡ Some i → i.body ≡ Some body → length i.resolved ≡ length body.instrs
  pub sites : (n : ℕ) (i : MethodInfo) (at : ℕ) (s : Site) → method_at P n ≡ Some i → site_at i at ≡ Some s → SiteFacts P i.«class» s
