use Rattle.std.proofs.Common.{◌≡◌, take}
use Rattle.nr_code.proofs.whole.copied.Given as goal

abbrev pub invariant-loop-handler : goal.invariant-loop-handler
invariant-loop-handler l = l.copies ≡ take l.handler-index l.handlers
