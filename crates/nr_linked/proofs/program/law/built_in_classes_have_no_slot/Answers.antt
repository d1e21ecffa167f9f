use Rattle.nr_linked.specs.BuiltIns.{built_in}
use Rattle.nr_linked.proofs.BuiltInEntries.{not_loaded}
use Rattle.nr_linked.proofs.BuiltInLaws.{no_built_in_slots}
use Rattle.nr_linked.proofs.program.law.built_in_classes_have_no_slot.Goals as goal

pub returns-clause-built_in : goal.returns-clause-built_in
returns-clause-built_in c = λ p b facts. no_built_in_slots p facts.linked (built_in p b) (not_loaded p b)

pub returns-clause-numbered : goal.returns-clause-numbered
returns-clause-numbered c = λ p n facts past. no_built_in_slots p facts.linked n past
