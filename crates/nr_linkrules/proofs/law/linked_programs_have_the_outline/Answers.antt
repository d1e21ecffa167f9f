use Rattle.nr_linkrules.proofs.LaidOut.{laid_classes}
use Rattle.nr_linkrules.proofs.Outlined.{classes_are}
use Rattle.nr_linkrules.proofs.OutlinedMethods.{methods_are}
use Rattle.nr_linkrules.proofs.law.linked_programs_have_the_outline.Goals as goal

pub returns-clause-classes : goal.returns-clause-classes
returns-clause-classes c = λ classes P links. classes_are classes P links

pub returns-clause-methods : goal.returns-clause-methods
returns-clause-methods c = λ classes P all links. methods_are classes P links all

pub returns-clause-laid : goal.returns-clause-laid
returns-clause-laid c = λ classes P links. laid_classes classes P links
