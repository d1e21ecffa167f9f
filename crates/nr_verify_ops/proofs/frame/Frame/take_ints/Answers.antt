use Rattle.std.proofs.Common.{◌∙◌, arith, ap}
use Rattle.nr_linked.specs.TypingFrames.{TypeFrame}
use Rattle.nr_verify_ops.specs.Answers.{with_operands}
use Rattle.nr_verify_ops.proofs.Counts.{ints_step}
use Rattle.nr_verify_ops.proofs.frame.Frame.take_ints.Goals as goal

pub returns-in-Err-clause-rule : goal.returns-in-Err-clause-rule
returns-in-Err-clause-rule c = λ k. c.loop-left.invariant.rule k ∙ (ints_step c.loop-left.left c.loop-left.depth c.loop-left.self.operands k (omega arith) ∙ c.in-Err.ensures.rule _)

pub loop-left-preserved : goal.loop-left-preserved
loop-left-preserved c = record {
  rule = λ k. c.loop-left.invariant.rule k ∙ (ints_step c.loop-left.left c.loop-left.depth c.loop-left.self.operands k (omega arith) ∙ c.in_default.ensures.rule _);
  rest = c.take_int.ensures.rest ∙ ap (λ (f : TypeFrame). with_operands f c.take_int.new.self.operands) c.loop-left.invariant.rest;
  few = omega arith;
}
