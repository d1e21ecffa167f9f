-- What linking finds for an instruction: JVM Specification 6.5, each instruction's description and its linking exceptions.
-- That all instructions are linked before a run is the project's own rule.
use Rattle.std.specs.Prelude.{◌≡◌, ℕ, List, false, ◌==◌, Option, Some, None, IsTrue, IsSomeAnd}
use Rattle.nr_optable.specs.declared.table.Family.{Family}
use Rattle.nr_optable.specs.declared.table.Family.TheVariants.{F8, F30, F31, F32, F33, F34, F37}
use Rattle.nr_prog.specs.declared.body.instruction.Args.{Args}
use Rattle.nr_prog.specs.declared.body.instruction.Args.TheVariants.{Dims, Pool}
use Rattle.nr_prog.specs.declared.body.instruction.Instr.{Instr}
use Rattle.nr_prog.specs.declared.pool.PoolEntry.{PoolEntry}
use Rattle.nr_prog.specs.declared.pool.PoolEntry.TheVariants.{FieldRef, Integer, InterfaceMethodRef, Long, MethodRef}
use Rattle.nr_linked.specs.declared.program.kind.Kind.{Kind}
use Rattle.nr_linked.specs.declared.program.tables.MethodInfo.{MethodInfo}
use Rattle.nr_linked.specs.declared.program.tables.ProgramTables.{ProgramTables}
use Rattle.nr_linked.specs.declared.program.tables.Resolved.{Resolved}
use Rattle.nr_linked.specs.declared.program.tables.Resolved.TheVariants as resolved
use Rattle.nr_prog.specs.Members.{is_static}
use Rattle.nr_prog.specs.Pool.{entry_at}
use Rattle.nr_linked.specs.Initialisers.{is_initialiser}
use Rattle.nr_linked.specs.Kinds.{class_kind, is_array}
use Rattle.nr_linked.specs.Programs.{is_interface, method_at}
use Rattle.nr_linked.specs.Subtypes.{Above}
use Rattle.nr_linked.specs.TypingFacts.{is_makeable}
use Rattle.nr_links.specs.Named.{NamesKind, NamesMember}
use Rattle.nr_links.specs.Resolution.{class_with_members, resolved_method, resolved_slot}

-- ---- constants (ldc, ldc_w, ldc2_w)

abbrev pub IsConstantFound : Resolved → PoolEntry → Type 0
IsConstantFound r (Integer n) = r ≡ resolved.Int n
IsConstantFound r (Long n) = r ≡ resolved.Long n
IsConstantFound r e = ⊥

-- ---- classes and arrays

-- anewarray, multianewarray, checkcast, instanceof
pub record IsKindFound (P : ProgramTables) (pool : List PoolEntry) (index : ℕ) (r : Resolved) : Type 0 where
  pub kind : Kind
  pub names : NamesKind P pool index kind
  pub found : r ≡ resolved.Kind kind

-- new: it names no array, no interface and no abstract class
pub record IsMadeFound (P : ProgramTables) (pool : List PoolEntry) (index : ℕ) (r : Resolved) : Type 0 where
  pub made : ℕ
  pub names : NamesKind P pool index (class_kind made)
  pub makeable : IsTrue (is_makeable P made)
  pub found : r ≡ resolved.Kind (class_kind made)

-- ---- fields (getfield, putfield)

-- the slot of a field that isn't static, with the class that has it
pub record IsSlotFound (P : ProgramTables) (pool : List PoolEntry) («class» member : ℕ) (r : Resolved) : Type 0 where
  pub kind : Kind
  pub name : List ℕ
  pub desc : List ℕ
  pub names : NamesMember P pool «class» member kind name desc
  pub holder : ℕ
  pub holds : class_with_members P kind ≡ Some holder
  pub slot : ℕ
  pub resolves : resolved_slot P holder name desc ≡ Some slot
  pub found : r ≡ resolved.Slot holder slot

abbrev pub IsFieldFound : ProgramTables → List PoolEntry → Resolved → PoolEntry → Type 0
IsFieldFound P pool r (FieldRef «class» member) = IsSlotFound P pool «class» member r
IsFieldFound P pool r e = ⊥

-- ---- methods (invokevirtual, invokespecial, invokestatic, invokeinterface)

-- The call with this code, in a method of class own, names the class c and resolves to the method `callee`.
pub record CanCall (P : ProgramTables) (own code c : ℕ) (callee : MethodInfo) : Type 0 where
  -- invokeinterface (185) names an interface, and the others a class
  pub names : is_interface P c ≡ (code == 185)
  -- invokestatic (184) calls a static method, and the others call no static one
  pub static : is_static callee.flags ≡ (code == 184)
  -- invokespecial (183) alone calls an initialiser
  pub initialiser : IsTrue (is_initialiser callee) → code ≡ 183
  -- invokespecial of another method names the class that holds the code, or one above it
  pub above : code ≡ 183 → is_initialiser callee ≡ false → Above P own c

-- the method, with the class that has it
pub record IsCallFound (P : ProgramTables) (own code : ℕ) (pool : List PoolEntry) («class» member : ℕ) (r : Resolved) : Type 0 where
  pub kind : Kind
  pub name : List ℕ
  pub desc : List ℕ
  pub names : NamesMember P pool «class» member kind name desc
  pub holder : ℕ
  pub holds : class_with_members P kind ≡ Some holder
  pub method : ℕ
  pub resolves : resolved_method P holder name desc ≡ Some method
  pub callee : MethodInfo
  pub is_callee : method_at P method ≡ Some callee
  -- an array has no initialiser
  pub no_array : IsTrue (is_initialiser callee) → is_array kind ≡ false
  pub can_call : CanCall P own code holder callee
  pub found : r ≡ resolved.Method method holder

abbrev pub IsMethodFound : ProgramTables → ℕ → ℕ → List PoolEntry → Resolved → PoolEntry → Type 0
IsMethodFound P own code pool r (MethodRef «class» member) = IsCallFound P own code pool «class» member r
IsMethodFound P own code pool r (InterfaceMethodRef «class» member) = IsCallFound P own code pool «class» member r
IsMethodFound P own code pool r e = ⊥

-- ---- each instruction

-- by the family of the instruction, which names the entry at the index
abbrev pub IsFoundBy : ProgramTables → ℕ → ℕ → List PoolEntry → ℕ → Resolved → Family → Type 0
IsFoundBy P own code pool index r F8 = IsSomeAnd (entry_at pool index) (IsConstantFound r)
IsFoundBy P own code pool index r F30 = IsSomeAnd (entry_at pool index) (IsFieldFound P pool r)
IsFoundBy P own code pool index r F31 = IsSomeAnd (entry_at pool index) (IsFieldFound P pool r)
IsFoundBy P own code pool index r F32 = IsSomeAnd (entry_at pool index) (IsMethodFound P own code pool r)
IsFoundBy P own code pool index r F33 = IsMadeFound P pool index r
IsFoundBy P own code pool index r F34 = IsKindFound P pool index r
IsFoundBy P own code pool index r F37 = IsKindFound P pool index r
IsFoundBy P own code pool index r family = r ≡ resolved.Nothing

-- the index of the constant pool among the operands
abbrev pub index_in : Args → Option ℕ
index_in (Pool index) = Some index
index_in (Dims index n) = Some index
index_in a = None

abbrev pub IsFoundAt : ProgramTables → ℕ → List PoolEntry → Instr → Resolved → Option ℕ → Type 0
IsFoundAt P own pool i r None = r ≡ resolved.Nothing
IsFoundAt P own pool i r (Some index) = IsFoundBy P own i.row.code pool index r i.row.family

-- what is found for an instruction in a method of class own, whose constant pool this is
abbrev pub IsFound : ProgramTables → ℕ → List PoolEntry → Instr → Resolved → Type 0
IsFound P own pool i r = IsFoundAt P own pool i r (index_in i.args)
