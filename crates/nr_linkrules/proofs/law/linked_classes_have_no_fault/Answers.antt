use Rattle.nr_linkrules.proofs.PassedCode.{no_fault}
use Rattle.nr_linkrules.proofs.law.linked_classes_have_no_fault.Goals as goal

pub returns : goal.returns
returns c = λ classes P all links. no_fault classes P links all
