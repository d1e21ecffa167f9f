-- Reading instructions one behind the other, with the first fault: the project's own rule.
use Rattle.std.specs.Prelude.{ℕ, List, Option, Some, None, nat_lt, if◌then◌else◌}
use Rattle.std.specs.Int.{w8}
use Rattle.nr_base.specs.Reader.{◌>>=◌, pure, refuse, from}
use Rattle.nr_optable.specs.declared.table.Row.{Row}
use Rattle.nr_prog.specs.declared.pool.PoolEntry.{PoolEntry}
use Rattle.nr_prog.specs.BodyOperands.{row_of}
use Rattle.nr_instrs.specs.declared.raw.RawInstr.{RawInstr}
use Rattle.nr_instrs.specs.declared.fault.CodeFault.TheVariants as faults
use Rattle.nr_instrs.specs.Numbers.{Read, unsigned_at}
use Rattle.nr_instrs.specs.OperandReading.{operands_at}

-- the row of a code; there are no instructions above 201
unfoldable pub listed_at : ℕ → ℕ → Option Row → Read Row
listed_at at code None = refuse (if nat_lt 201 code then faults.UnknownOp at else faults.OutOfProfile at code)
listed_at at code (Some r) = pure r

unfoldable pub row_at : ℕ → Read Row
row_at at = unsigned_at w8 at >>= λ code. listed_at at code (row_of code)

unfoldable pub instr_at : List PoolEntry → Read RawInstr
instr_at pool = from (λ at. do
  r ← row_at at
  operands ← operands_at pool r at r.shape
  pure (record { at = at; row = r; operands = operands }))
