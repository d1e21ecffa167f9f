-- The instructions of a method, by their offsets.
use Rattle.std.specs.Prelude.{◌≡◌, ℕ, IsSomeAnd}
use Rattle.std.specs.Option.{IfSome, option_and_then}
use Rattle.nr_optable.specs.declared.table.Family.{Family}
use Rattle.nr_prog.specs.declared.body.instruction.Instr.{Instr}
use Rattle.nr_prog.specs.Offsets.{IsInOrder}
use Rattle.nr_linked.specs.declared.program.tables.MethodInfo.{MethodInfo}
use Rattle.nr_linked.specs.declared.program.tables.ProgramTables.{ProgramTables}
use Rattle.nr_linked.specs.declared.program.tables.Resolved.{Resolved}
use Rattle.nr_linked.specs.Programs.{method_at}
use Rattle.nr_linked.specs.Sites.{Site, site_at}

-- the instructions of the method stand at rising offsets
abbrev pub HasCodeInOrder : MethodInfo → Type 0
HasCodeInOrder m = IfSome m.body (λ body. IsInOrder body.instrs)

-- the family of an instruction, and what linking found for it
abbrev pub family_and_found : Site → Family × Resolved
family_and_found s = (s.instr.row.family, s.resolved)

-- the instruction is one of the method's
abbrev pub IsInstrOf : ProgramTables → ℕ → Instr → Type 0
IsInstrOf P n i = IsSomeAnd (option_and_then (λ m. site_at m i.at) (method_at P n)) (λ s. s.instr ≡ i)
