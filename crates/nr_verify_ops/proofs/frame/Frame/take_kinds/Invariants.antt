use Rattle.std.proofs.Common.{◌≡◌, ◌≤◌, ◌+◌, ℕ, List, length, reverse}
use Rattle.nr_linked.specs.declared.program.types.VType.{VType}
use Rattle.nr_linked.specs.TypingChecks.{Checked, take_kinds}
use Rattle.nr_verify_ops.specs.Answers.{with_operands}
use Rattle.nr_verify_ops.proofs.frame.Frame.take_kinds.Given as goal

abbrev pub decreases-loop-last : goal.decreases-loop-last
decreases-loop-last l = length l.left

abbrev pub invariant-loop-last : goal.invariant-loop-last
invariant-loop-last l = record {
  rule : (k : ℕ → List VType → Checked) → take_kinds l.p (reverse l.fn.kinds) 0 l.fn.self.operands k ≡ take_kinds l.p (reverse l.left) l.depth l.self.operands k;
  rest : l.self ≡ with_operands l.fn.self l.self.operands;
  few : l.depth + length l.left ≤ 254;
}
