use Rattle.std.proofs.Common.{◌≡◌, ◌+◌, List}
use Rattle.nr_linked.specs.declared.program.types.VType.{VType}
use Rattle.nr_linked.specs.TypingChecks.{Checked, take_ints}
use Rattle.nr_verify_ops.specs.Answers.{with_operands}
use Rattle.nr_verify_ops.proofs.frame.Frame.take_ints.Given as goal

abbrev pub decreases-loop-left : goal.decreases-loop-left
decreases-loop-left l = l.left

abbrev pub invariant-loop-left : goal.invariant-loop-left
invariant-loop-left l = record {
  rule : (k : List VType → Checked) → take_ints l.count 0 l.fn.self.operands k ≡ take_ints l.left l.depth l.self.operands k;
  rest : l.self ≡ with_operands l.fn.self l.self.operands;
  few : l.depth + l.left ≡ l.count;
}
