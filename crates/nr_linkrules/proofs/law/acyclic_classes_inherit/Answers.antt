use Rattle.nr_linkrules.proofs.Inherited.{further_up, inherits}
use Rattle.nr_linkrules.proofs.law.acyclic_classes_inherit.Goals as goal

pub returns-clause-superclasses : goal.returns-clause-superclasses
returns-clause-superclasses c = λ P short none. further_up P short none

pub returns-clause-slots : goal.returns-clause-slots
returns-clause-slots c = λ P short none. inherits P short none
