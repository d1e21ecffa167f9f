use Rattle.std.proofs.Common.{arith}
use Rattle.nr_base.proofs.Wholes.{found_whole, only_whole}
use Rattle.nr_message.specs.Faults.{is_free}
use Rattle.nr_message.specs.declared.fault.MessageFault.TheVariants as faults
use Rattle.nr_message.proofs.Hellos.{hello_law}
use Rattle.nr_message.proofs.read.hello.read_hello.Goals as goal

pub returns-clause-found : goal.returns-clause-found
returns-clause-found c = found_whole is_free faults.Trailing hello_law c.args.body.now c.read_whole.result (λ i. omega (arith, c.type_inv.body i)) c.read_whole.ensures

pub returns-clause-only : goal.returns-clause-only
returns-clause-only c = λ x g. only_whole is_free faults.Trailing hello_law c.args.body.now c.read_whole.result x g c.read_whole.ensures
