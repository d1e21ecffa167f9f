use Rattle.nr_linkrules.proofs.Learnt.{few, not_reserved, number}
use Rattle.nr_linkrules.proofs.law.lists_without_fault_have_names.Goals as goal

pub returns-clause-few : goal.returns-clause-few
returns-clause-few c = λ classes none. few classes none

pub returns-clause-free : goal.returns-clause-free
returns-clause-free c = λ classes none. not_reserved classes none

pub returns-clause-numbered : goal.returns-clause-numbered
returns-clause-numbered c = λ classes none. number classes none
