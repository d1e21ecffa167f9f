use Rattle.std.proofs.Common.{◌≡◌, drop}
use Rattle.nr_linked.specs.TypingFrames.{locals_fit}
use Rattle.nr_types.proofs.assign.locals_fit.Given as goal

abbrev pub invariant-loop-i : goal.invariant-loop-i
invariant-loop-i l = locals_fit l.p l.ts l.us ≡ locals_fit l.p (drop l.i l.ts) (drop l.i l.us)
