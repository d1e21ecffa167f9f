use Rattle.std.proofs.Common.{arith}
use Rattle.nr_base.proofs.NameLaws.{name_found, gives_name}
use Rattle.nr_base.proofs.name.Name.read.Goals as goal

pub returns-clause-found : goal.returns-clause-found
returns-clause-found c = name_found c.args.bytes.now c.checked.result (λ i. omega (arith, c.type_inv.bytes i)) c.checked.ensures

pub returns-clause-only : goal.returns-clause-only
returns-clause-only c = gives_name c.args.bytes.now c.checked.result c.checked.ensures
