use Rattle.std.proofs.Common.{arith, ◌-◌}
use Rattle.nr_step.proofs.Stacks.{below}
use Rattle.nr_step.proofs.operands.operand_at.Goals as goal

pub returns : goal.returns
returns c = below c.args.stack.now c.args.depth (c.args.depth - c.args.at) c.args.at c.pop.result _ (omega (arith, c.requires.some)) c.pop.ensures.popped
