use Rattle.std.proofs.Common.{arith}
use Rattle.nr_base.proofs.MethodLaws.{method_found, gives_method}
use Rattle.nr_base.proofs.desc.types.MethodDesc.read.Goals as goal

pub returns-clause-found : goal.returns-clause-found
returns-clause-found c = method_found c.args.bytes.now c.whole_method.result (λ i. omega (arith, c.type_inv.bytes i)) c.whole_method.ensures

pub returns-clause-only : goal.returns-clause-only
returns-clause-only c = λ m spelled. gives_method c.args.bytes.now c.whole_method.result m c.whole_method.ensures spelled
