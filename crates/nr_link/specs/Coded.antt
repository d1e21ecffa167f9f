-- Methods with the code that their class file has.
use Rattle.std.specs.Prelude.{◌≡◌, ℕ, ◌⊎◌, List, All, Option, IfSome, IsSomeAnd}
use Rattle.std.specs.Option.{option_and_then}
use Rattle.nr_prog.specs.declared.body.instruction.Instr.{Instr}
use Rattle.nr_prog.specs.declared.body.whole.Body.{Body}
use Rattle.nr_prog.specs.declared.member.Handler.{Handler}
use Rattle.nr_prog.specs.declared.parts.ClassParts.{ClassParts}
use Rattle.nr_prog.specs.declared.pool.PoolEntry.{PoolEntry}
use Rattle.nr_prog.specs.BodyNames.{NamesAnyClass}
use Rattle.nr_linked.specs.declared.program.tables.ClassInfo.{ClassInfo}
use Rattle.nr_linked.specs.declared.program.tables.MethodInfo.{MethodInfo}
use Rattle.nr_linked.specs.declared.program.tables.ProgramTables.{ProgramTables}
use Rattle.nr_linked.specs.declared.program.tables.Resolved.{Resolved}
use Rattle.nr_linked.specs.Programs.{class_at}
use Rattle.nr_linkrules.specs.declared.fault.LinkFault.{LinkFault}
use Rattle.nr_linkrules.specs.Completion.{or_nothing}
use Rattle.nr_linkrules.specs.SiteRules.{fault_of, instr_found, place_in}
use Rattle.nr_link.specs.Naming.{HasNames}

-- the class as it was read
abbrev pub read_class : ProgramTables → ℕ → Option ClassParts
read_class P c = option_and_then (λ e. e.read) (class_at P c)

-- the fault of an instruction of the method, whose class has this constant pool; and what is found for it
abbrev pub site_fault : ProgramTables → MethodInfo → List PoolEntry → Instr → Option LinkFault
site_fault P i pool n = fault_of (instr_found P (place_in P i) pool n)

abbrev pub found_in : ProgramTables → MethodInfo → List PoolEntry → Instr → Resolved
found_in P i pool n = or_nothing (instr_found P (place_in P i) pool n)

-- the classes that the code names have names
pub record HasNamesIn (b : Body) (parts : ClassParts) : Type 0 where
  pub instrs : All (HasNames parts.pool) b.instrs
  pub handlers : All (λ h. (h.catch_type ≡ 0) ⊎ NamesAnyClass parts.pool h.catch_type) b.handlers

-- the method is one of a class that was loaded, where it has code; and the classes that its code names have names
abbrev pub IsCoded : ProgramTables → MethodInfo → Type 0
IsCoded P i = IfSome i.body (λ b. IsSomeAnd (read_class P i.«class») (HasNamesIn b))
