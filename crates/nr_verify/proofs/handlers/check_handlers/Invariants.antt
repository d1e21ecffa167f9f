use Rattle.std.proofs.Common.{◌≡◌, ◌+◌, ◌≤◌, length}
use Rattle.nr_linked.specs.TypingFaults.{Passed, check_handlers}
use Rattle.nr_linked.specs.WellTyped.{with_catches}
use Rattle.nr_verify.proofs.handlers.check_handlers.Given as goal

abbrev pub decreases-loop-h : goal.decreases-loop-h
decreases-loop-h l = length l.hs

abbrev pub invariant-loop-h : goal.invariant-loop-h
invariant-loop-h l = record {
  same : (next : Passed) → check_handlers l.p l.method l.at l.frame 0 (with_catches l.fn.handlers l.fn.catches) next ≡ check_handlers l.p l.method l.at l.frame l.n (with_catches l.hs l.ks) next;
  few : l.n + length l.hs ≤ 65536;
}
