-- One instruction as a rule of the model, by its row, its operands and what linking found for it: where it can begin, and
-- what it leads to.
use Rattle.std.specs.Prelude.{◌≡◌, ℕ, ◌≤◌, Bool, ◌&&◌, ◌||◌, ◌==◌, nat_le, List, length, Option, Contains}
use Rattle.nr_optable.specs.declared.table.Row.{Row}
use Rattle.nr_optable.specs.Rows.{all_rows}
use Rattle.nr_prog.specs.declared.body.instruction.Args.{Args}
use Rattle.nr_prog.specs.declared.body.instruction.Args.TheVariants as args
use Rattle.nr_prog.specs.declared.body.instruction.Instr.{Instr}
use Rattle.nr_linked.specs.declared.program.tables.MethodInfo.{MethodInfo}
use Rattle.nr_linked.specs.declared.program.tables.ProgramTables.{ProgramTables}
use Rattle.nr_linked.specs.declared.program.tables.Resolved.{Resolved}
use Rattle.nr_linked.specs.Sites.{Site}
use Rattle.nr_model.specs.Scripts.{Ending, Runs, Script, Within}
use Rattle.nr_model.specs.Rules.{script}
use Rattle.nr_model.specs.declared.value.Value.{Value}
use Rattle.nr_model.specs.Heaps.{Heap}
use Rattle.nr_step.specs.declared.flow.Flow.{Flow}
use Rattle.nr_step.specs.declared.flow.Told.{Told}
use Rattle.nr_step.specs.Flows.{Went}
use Rattle.nr_step.specs.Windows.{window}

abbrev pub site_of : Instr → Resolved → Option ℕ → Site
site_of i found n = record { instr = i; resolved = found; next = n }

-- what it does, by the offset of the next one
abbrev pub doing : ProgramTables → MethodInfo → Instr → Resolved → Option ℕ → Script
doing P own i found n = script P own (site_of i found n)

-- the row is that of the code
pub record IsRowOf (n : ℕ) (r : Row) : Type 0 where
  pub listed : Contains all_rows r
  pub code : r.code ≡ n

-- the operands are those of a branch
abbrev pub IsBranch : Args → Type 0
IsBranch a = (target : ℕ) × (a ≡ args.Branch target)

-- goto, goto_w
abbrev pub is_goto : ℕ → Bool
is_goto code = code == 167 || code == 200

-- iload, lload, aload
abbrev pub is_load : ℕ → Bool
is_load code = code == 21 || (code == 22 || code == 25)

-- istore, lstore, astore
abbrev pub is_store : ℕ → Bool
is_store code = code == 54 || (code == 55 || code == 58)

-- bipush, sipush
abbrev pub is_push : ℕ → Bool
is_push code = code == 16 || code == 17

-- ldc, ldc_w, ldc2_w
abbrev pub is_pool_load : ℕ → Bool
is_pool_load code = code == 18 || (code == 19 || code == 20)

-- ireturn, lreturn, areturn
abbrev pub returns_top : ℕ → Bool
returns_top code = code == 172 || (code == 173 || code == 176)

-- newarray, anewarray
abbrev pub makes_array : ℕ → Bool
makes_array code = code == 188 || code == 189

-- iaload, laload, aaload, baload, caload, saload
abbrev pub is_array_load : ℕ → Bool
is_array_load code = nat_le 46 code && nat_le code 53

-- iastore, bastore, castore, sastore
abbrev pub is_int_store : ℕ → Bool
is_int_store code = code == 79 || (code == 84 || (code == 85 || code == 86))

-- tableswitch, lookupswitch
abbrev pub is_switch : ℕ → Bool
is_switch code = code == 170 || code == 171

-- the instruction has a run from w, which leaves no more operands than there is room for
pub record CanDo (P : ProgramTables) (own : MethodInfo) (i : Instr) (found : Resolved) (w : Within) (room : ℕ) : Type 0 where
  pub next : Option ℕ
  pub ending : Ending
  pub left : Within
  pub runs : Runs (script P own (site_of i found next)) w ending left
  pub fits : length left.operands ≤ room

-- ---- instructions that touch the operands alone: the program, the heap and the locals are any

abbrev pub CanOperate : Instr → List Value → ℕ → Type 0
CanOperate i stack d = (P : ProgramTables) × (own : MethodInfo) × (found : Resolved) × (h : Heap) × (ls : List Value)
    × CanDo P own i found (window h ls stack d) (length stack)

abbrev pub Operates : Flow → Instr → List Value → ℕ → Told → List Value → ℕ → Type 0
Operates flow i old d told new e = (P : ProgramTables) (own : MethodInfo) (found : Resolved) (h : Heap) (ls : List Value)
    → Went flow P (doing P own i found) (window h ls old d) told (window h ls new e)

-- ---- the same with what was found: loads of the constant pool

abbrev pub CanLoad : Instr → Resolved → List Value → ℕ → Type 0
CanLoad i found stack d = (P : ProgramTables) × (own : MethodInfo) × (h : Heap) × (ls : List Value)
    × CanDo P own i found (window h ls stack d) (length stack)

abbrev pub Loads : Flow → Instr → Resolved → List Value → ℕ → Told → List Value → ℕ → Type 0
Loads flow i found old d told new e = (P : ProgramTables) (own : MethodInfo) (h : Heap) (ls : List Value)
    → Went flow P (doing P own i found) (window h ls old d) told (window h ls new e)

-- ---- instructions that touch the locals too

abbrev pub CanMove : Instr → List Value → List Value → ℕ → Type 0
CanMove i locals stack d = (P : ProgramTables) × (own : MethodInfo) × (found : Resolved) × (h : Heap)
    × CanDo P own i found (window h locals stack d) (length stack)

abbrev pub Moves : Flow → Instr → List Value → List Value → ℕ → Told → List Value → List Value → ℕ → Type 0
Moves flow i ls old d told ms new e = (P : ProgramTables) (own : MethodInfo) (found : Resolved) (h : Heap)
    → Went flow P (doing P own i found) (window h ls old d) told (window h ms new e)

-- ---- instructions that touch the heap, whatever was found

abbrev pub CanReach : ProgramTables → Instr → Heap → List Value → ℕ → Type 0
CanReach P i h stack d = (own : MethodInfo) × (found : Resolved) × (ls : List Value)
    × CanDo P own i found (window h ls stack d) (length stack)

abbrev pub Reaches : Flow → ProgramTables → Instr → Heap → List Value → ℕ → Told → Heap → List Value → ℕ → Type 0
Reaches flow P i h old d told k new e = (own : MethodInfo) (found : Resolved) (ls : List Value)
    → Went flow P (doing P own i found) (window h ls old d) told (window k ls new e)

-- ---- and those for which linking found something

abbrev pub CanFind : ProgramTables → Instr → Resolved → Heap → List Value → ℕ → Type 0
CanFind P i found h stack d = (own : MethodInfo) × (ls : List Value)
    × CanDo P own i found (window h ls stack d) (length stack)

abbrev pub Finds : Flow → ProgramTables → Instr → Resolved → Heap → List Value → ℕ → Told → Heap → List Value → ℕ → Type 0
Finds flow P i found h old d told k new e = (own : MethodInfo) (ls : List Value)
    → Went flow P (doing P own i found) (window h ls old d) told (window k ls new e)
