-- The numbers of local variables that loads and stores name (JVM Specification 6.5, iload to aload and istore to astore).
use Rattle.std.specs.Prelude.{ℕ, ◌-◌, Option, Some, None}
use Rattle.nr_optable.specs.declared.table.Letter.{Letter}
use Rattle.nr_optable.specs.declared.table.Letter.TheVariants as letters
use Rattle.nr_prog.specs.declared.body.instruction.Args.{Args}
use Rattle.nr_prog.specs.declared.body.instruction.Args.TheVariants as args

-- the first code of the group with the number in the code: iload_0, lload_0, aload_0
abbrev pub first_load : Letter → ℕ
first_load letters.I = 26
first_load letters.J = 30
first_load letter = 42

-- istore_0, lstore_0, astore_0
abbrev pub first_store : Letter → ℕ
first_store letters.I = 59
first_store letters.J = 63
first_store letter = 75

-- the operand, or what the code says
abbrev pub local_of : ℕ → ℕ → Args → Option ℕ
local_of first code (args.Local i) = Some i
local_of first code args.Empty = Some (code - first)
local_of first code a = None
