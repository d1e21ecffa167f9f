-- Instructions whose classes have names.
use Rattle.std.specs.Prelude.{ℕ, List, IfSome}
use Rattle.nr_optable.specs.declared.table.Family.{Family}
use Rattle.nr_optable.specs.declared.table.Family.TheVariants.{F30, F31, F32, F33, F34, F37}
use Rattle.nr_prog.specs.declared.body.instruction.Instr.{Instr}
use Rattle.nr_prog.specs.declared.pool.PoolEntry.{PoolEntry}
use Rattle.nr_prog.specs.declared.pool.PoolEntry.TheVariants.{FieldRef, InterfaceMethodRef, MethodRef}
use Rattle.nr_prog.specs.BodyNames.{NamesAnyClass}
use Rattle.nr_prog.specs.Pool.{entry_at}
use Rattle.nr_links.specs.Found.{index_in}

-- a reference to a member names its class by a name
abbrev pub IsMemberNamed : List PoolEntry → PoolEntry → Type 0
IsMemberNamed pool (FieldRef «class» member) = NamesAnyClass pool «class»
IsMemberNamed pool (MethodRef «class» member) = NamesAnyClass pool «class»
IsMemberNamed pool (InterfaceMethodRef «class» member) = NamesAnyClass pool «class»
IsMemberNamed pool e = Unit {0}

-- so does the entry at the index, where an instruction of the family names a class by it
abbrev pub IsNamedBy : List PoolEntry → ℕ → Family → Type 0
IsNamedBy pool index F30 = IfSome (entry_at pool index) (IsMemberNamed pool)
IsNamedBy pool index F31 = IfSome (entry_at pool index) (IsMemberNamed pool)
IsNamedBy pool index F32 = IfSome (entry_at pool index) (IsMemberNamed pool)
IsNamedBy pool index F33 = NamesAnyClass pool index
IsNamedBy pool index F34 = NamesAnyClass pool index
IsNamedBy pool index F37 = NamesAnyClass pool index
IsNamedBy pool index family = Unit {0}

-- the class that the instruction names has a name
abbrev pub HasNames : List PoolEntry → Instr → Type 0
HasNames pool i = IfSome (index_in i.args) (λ index. IsNamedBy pool index i.row.family)
