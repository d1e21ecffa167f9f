use Rattle.nr_typed.proofs.ExampleOrder.{example_in_order}
use Rattle.nr_typed.proofs.ExampleLinked.{example_facts}
use Rattle.nr_typed.proofs.ExampleTyped.{example_typed}
use Rattle.nr_typed.proofs.ExampleStands.{example_stands}
use Rattle.nr_typed.proofs.law.example.premises_can_be_met.Goals as goal

pub returns-clause-facts : goal.returns-clause-facts
returns-clause-facts c = example_facts

pub returns-clause-typed : goal.returns-clause-typed
returns-clause-typed c = example_typed

pub returns-clause-order : goal.returns-clause-order
returns-clause-order c = example_in_order

pub returns-clause-standing : goal.returns-clause-standing
returns-clause-standing c = example_stands
