use Rattle.nr_linked.proofs.Declaring.{static_found}
use Rattle.nr_linked.proofs.program.law.static_methods_are_found.Goals as goal

pub returns : goal.returns
returns c = λ p m i facts is shown static. static_found p facts.linked m i is shown static
