use Rattle.std.proofs.Common.{arith, reverse}
use Rattle.std.proofs.lemmas.List.{length-reverse}
use Rattle.nr_types.proofs.SizeLaws.{few, small}
use Rattle.nr_verify_ops.proofs.frame.Frame.push.Goals as goal

pub overflow_add-self : goal.overflow_add-self
overflow_add-self c = omega (arith, c.self.invariant, few (reverse c.self.inside.stack.items), length-reverse c.self.inside.stack.items, c.size_of.ensures, small c.args.t)
