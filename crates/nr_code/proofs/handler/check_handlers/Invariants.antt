use Rattle.std.proofs.Common.{◌≡◌, drop}
use Rattle.nr_instrs.specs.Checks.{walk}
use Rattle.nr_code.specs.HandlerChecks.{handler_step}
use Rattle.nr_code.proofs.handler.check_handlers.Given as goal

abbrev pub invariant-loop-place : goal.invariant-loop-place
invariant-loop-place l = walk (handler_step l.class.pool l.len l.starts) l.place (drop l.place l.handlers) ≡ walk (handler_step l.class.pool l.len l.starts) 0 l.handlers
