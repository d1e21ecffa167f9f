-- The check of exception handlers, with the first fault: the project's own rule.
use Rattle.std.specs.Prelude.{ℕ, ◌+◌, List, Bool, ◌&&◌, ◌||◌, ◌==◌, nat_lt, Result, Ok, Err, if◌then◌else◌}
use Rattle.nr_prog.specs.declared.pool.PoolEntry.{PoolEntry}
use Rattle.nr_prog.specs.declared.member.Handler.{Handler}
use Rattle.nr_prog.specs.declared.body.instruction.Instr.{Instr}
use Rattle.nr_prog.specs.BodyStarts.{is_start}
use Rattle.nr_instrs.specs.Checks.{walk}
use Rattle.nr_instrs.specs.NameTests.{names_class}
use Rattle.nr_instrs.specs.declared.fault.CodeFault.{CodeFault}
use Rattle.nr_instrs.specs.declared.fault.CodeFault.TheVariants as faults

unfoldable pub is_handler : List PoolEntry → ℕ → List Instr → Handler → Bool
is_handler pool len is h =
    is_start is h.start && (is_start is h.end || h.end == len) && nat_lt h.start h.end
    && is_start is h.handler && (h.catch_type == 0 || names_class pool h.catch_type)

-- the number of the next one, after those that are in order
unfoldable pub handler_step : List PoolEntry → ℕ → List Instr → ℕ → Handler → Result ℕ CodeFault
handler_step pool len is n h = if is_handler pool len is h then Ok (n + 1) else Err (faults.HandlerRange n)

unfoldable pub handlers_checked : List PoolEntry → ℕ → List Instr → List Handler → Result ℕ CodeFault
handlers_checked pool len is handlers = walk (handler_step pool len is) 0 handlers
