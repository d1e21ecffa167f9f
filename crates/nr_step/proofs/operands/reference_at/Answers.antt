use Rattle.nr_model.specs.Scripts.{OnReference}
use Rattle.nr_step.proofs.Asks.{in_use}
use Rattle.nr_step.proofs.operands.reference_at.Goals as goal

pub operand_at-requires-clause-some : goal.operand_at-requires-clause-some
operand_at-requires-clause-some c = in_use c.args.stack.now c.args.depth c.args.at (λ v. OnReference v (λ r. Unit {0})) c.requires.some
