use Rattle.nr_linkrules.proofs.Linking.{links, no_other}
use Rattle.nr_linkrules.proofs.law.classes_without_fault_link.Goals as goal

pub returns-clause-links : goal.returns-clause-links
returns-clause-links c = λ classes all none. links classes none all

pub returns-clause-alone : goal.returns-clause-alone
returns-clause-alone c = λ classes P all linked. no_other classes P all linked
