-- Decoding the instructions of a method, with the first fault: instructions, then targets. The project's own rule.
use Rattle.std.specs.Prelude.{ℕ, List, [], Result, Ok, Err}
use Rattle.nr_base.specs.Place.{Place, start_of}
use Rattle.nr_base.specs.Reader.{onto, to_end}
use Rattle.nr_prog.specs.declared.pool.PoolEntry.{PoolEntry}
use Rattle.nr_prog.specs.declared.body.instruction.Instr.{Instr}
use Rattle.nr_instrs.specs.declared.raw.RawInstr.{RawInstr}
use Rattle.nr_instrs.specs.declared.fault.CodeFault.{CodeFault}
use Rattle.nr_instrs.specs.InstrReading.{instr_at}
use Rattle.nr_instrs.specs.Checks.{then_on, settled_all}

abbrev pub read_of : Result (List RawInstr × Place) CodeFault → Result (List RawInstr) CodeFault
read_of (Ok x) = Ok x.0
read_of (Err e) = Err e

-- the instructions as they are read
unfoldable pub raws_of : List PoolEntry → List ℕ → Result (List RawInstr) CodeFault
raws_of pool bytes = read_of (to_end (onto (instr_at pool)) [] (start_of bytes))

-- the instructions with their targets
unfoldable pub instrs_of : List PoolEntry → List ℕ → Result (List Instr) CodeFault
instrs_of pool bytes = then_on (raws_of pool bytes) settled_all
