-- The code of methods as text: JVM Specification 4.7.3 and 4.9.1.
use Rattle.std.specs.Prelude.{◌≡◌, ℕ, ◌+◌, ◌<◌, ◌⊎◌, List, [], ◌∷◌, ◌++◌, length, Option, Some, None, All, IsTrue, slice_get}
use Rattle.std.specs.List.{list_all}
use Rattle.nr_base.specs.Grammar.{Grammar, tagged}
use Rattle.nr_prog.specs.declared.pool.PoolEntry.{PoolEntry}
use Rattle.nr_prog.specs.declared.member.Handler.{Handler}
use Rattle.nr_prog.specs.declared.member.Method.{Method}
use Rattle.nr_prog.specs.declared.member.Code.{Code}
use Rattle.nr_prog.specs.declared.parts.ClassParts.{ClassParts}
use Rattle.nr_prog.specs.declared.body.instruction.Instr.{Instr}
use Rattle.nr_prog.specs.declared.body.whole.Body.{Body}
use Rattle.nr_prog.specs.BodyNames.{NamesAnyClass}
use Rattle.nr_prog.specs.BodyOperands.{row_of, operands}
use Rattle.nr_prog.specs.BodyStarts.{is_start, targets_of}
use Rattle.nr_prog.specs.BodyMaps.{IsMapped}

-- ---- instructions

-- an instruction at the offset: its code, and its operands
pub record IsInstr (pool : List PoolEntry) (at : ℕ) (i : Instr) (text : List ℕ) : Type 0 where
  pub placed : i.at ≡ at
  pub listed : row_of i.row.code ≡ Some i.row
  pub spelled : tagged i.row.code (operands pool i.row at i.row.shape) i.args text

-- one instruction behind the other, the first at the offset
abbrev pub instrs : List PoolEntry → ℕ → Grammar (List Instr)
instrs pool at [] text = text ≡ []
instrs pool at (i ∷ more) text =
    (front back : List ℕ) × IsInstr pool at i front × instrs pool (at + length front) more back × (text ≡ front ++ back)

-- each target of a branch is where an instruction starts (4.9.1)
abbrev pub HasTargets : List Instr → Instr → Type 0
HasTargets is i = IsTrue (list_all (is_start is) (targets_of i.args))

-- ---- exception handlers (4.7.3, exception_table)

-- the range begins at an instruction, and ends behind it at one or at the end of the code; the handler is one; what it
-- catches is a class, or everything
pub record IsHandler (pool : List PoolEntry) (len : ℕ) (is : List Instr) (h : Handler) : Type 0 where
  pub start : IsTrue (is_start is h.start)
  pub end : IsTrue (is_start is h.end) ⊎ (h.end ≡ len)
  pub order : h.start < h.end
  pub handler : IsTrue (is_start is h.handler)
  pub catches : (h.catch_type ≡ 0) ⊎ NamesAnyClass pool h.catch_type

-- ---- the code of a method

-- the code of the method at this place in the class, where it has some
abbrev pub code_in : Option Method → Option Code
code_in None = None
code_in (Some m) = m.code

abbrev pub code_at : ClassParts → ℕ → Option Code
code_at c method = code_in (slice_get c.methods method)

pub record IsBody (c : ClassParts) (m : Method) (code : Code) (b : Body) : Type 0 where
  pub instrs : instrs c.pool 0 b.instrs code.bytes
  pub targets : All (HasTargets b.instrs) b.instrs
  pub handlers : b.handlers ≡ code.handlers
  pub ranges : All (IsHandler c.pool (length code.bytes) b.instrs) code.handlers
  pub maps : IsMapped c m b.instrs code.maps b.maps

-- the method of the class has this code
pub record CodeAs (c : ClassParts) (method : ℕ) (b : Body) : Type 0 where
  pub found : Method
  pub code : Code
  pub placed : slice_get c.methods method ≡ Some found
  pub has : found.code ≡ Some code
  pub body : IsBody c found code b

-- ---- the code of all methods of a class

abbrev pub BodyFor : ClassParts → Method → Option Code → Option Body → Type 0
BodyFor c m None b = b ≡ None
BodyFor c m (Some code) b = (body : Body) × (b ≡ Some body) × IsBody c m code body

abbrev pub EachBody : ClassParts → List Method → List (Option Body) → Type 0
EachBody c [] [] = Unit {0}
EachBody c (m ∷ ms) (b ∷ bs) = BodyFor c m m.code b × EachBody c ms bs
EachBody c ms bs = ⊥

-- one for each method, in order: its code, or none where it has none
abbrev pub HasBodies : ClassParts → List (Option Body) → Type 0
HasBodies c bodies = EachBody c c.methods bodies
