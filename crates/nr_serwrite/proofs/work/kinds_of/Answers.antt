use Rattle.nr_serwrite.proofs.Items.{elements_are, slots_are}
use Rattle.nr_serwrite.proofs.work.kinds_of.Goals as goal

pub returns-then-kind-gt0 : goal.returns-then-kind-gt0
returns-then-kind-gt0 c = λ n is. elements_are c.args.forms.now n c.args.kind is c.if-kind-gt0.true

pub returns : goal.returns
returns c = λ n is. slots_are c.args.forms.now n c.args.kind _ is c.if-kind-gt0.false c.slots_of.ensures
