-- The faults of code. The project's own rule.
use Rattle.std.specs.Prelude.{ℕ, Bool, true, false}
use Rattle.nr_base.specs.declared.cur.Short.{Short}
use Rattle.nr_instrs.specs.declared.fault.CodeFault.{CodeFault}
use Rattle.nr_instrs.specs.declared.fault.CodeFault.TheVariants as faults

-- want of memory may come at any time
abbrev pub is_free : CodeFault → Bool
is_free faults.NoMemory = true
is_free e = false

-- in frame maps a number that doesn't fit is told at its own offset
abbrev pub of_short : Short → CodeFault
of_short s = faults.Short s.at

-- in an instruction, at the offset of the instruction
abbrev pub short_of : ℕ → Short → CodeFault
short_of at s = faults.Short at
