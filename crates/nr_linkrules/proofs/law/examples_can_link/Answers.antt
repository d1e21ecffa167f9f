use Rattle.nr_linkrules.proofs.ExamplePrograms as examples
use Rattle.nr_linkrules.proofs.law.examples_can_link.Goals as goal

pub returns-clause-fault : goal.returns-clause-fault
returns-clause-fault c = examples.fault

pub returns-clause-program : goal.returns-clause-program
returns-clause-program c = examples.program

pub returns-clause-main : goal.returns-clause-main
returns-clause-main c = examples.main

pub returns-clause-no_main : goal.returns-clause-no_main
returns-clause-no_main c = examples.no_main

pub returns-clause-main_without_code : goal.returns-clause-main_without_code
returns-clause-main_without_code c = examples.main_without_code

pub returns-clause-main_of_none : goal.returns-clause-main_of_none
returns-clause-main_of_none c = examples.main_of_none

pub returns-clause-service : goal.returns-clause-service
returns-clause-service c = examples.service

pub returns-clause-interface : goal.returns-clause-interface
returns-clause-interface c = examples.interface

pub returns-clause-built_in : goal.returns-clause-built_in
returns-clause-built_in c = examples.built_in

pub returns-clause-no_service : goal.returns-clause-no_service
returns-clause-no_service c = examples.no_service
