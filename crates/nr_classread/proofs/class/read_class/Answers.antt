use Rattle.std.proofs.Common.{arith}
use Rattle.nr_classread.proofs.Classes.{is_found, is_read}
use Rattle.nr_classread.proofs.class.read_class.Goals as goal

pub returns-clause-found : goal.returns-clause-found
returns-clause-found c = is_found c.args.bytes.now c.read_formed.result (λ i. omega (arith, c.type_inv.bytes i)) c.read_formed.ensures.exact c.read_formed.ensures.formed

pub returns-clause-only : goal.returns-clause-only
returns-clause-only c = λ x g. is_read c.args.bytes.now c.read_formed.result x g c.read_formed.ensures.exact
