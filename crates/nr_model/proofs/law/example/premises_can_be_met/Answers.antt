use Rattle.nr_model.proofs.Examples.BoxCopied.{copies_made, run_here, run_there, local_run}
use Rattle.nr_model.proofs.Examples.BoxRestored.{start_alike, all_listed, closed, restores, left_the_same, call_is_local, call_is_restored}
use Rattle.nr_model.proofs.Examples.BoxAsked.{answered_run, own_run, own_entry, mirrored, one_faulted, itself}
use Rattle.nr_model.proofs.Examples.BoxRelayed.{each_local, each_own, relay_run}
use Rattle.nr_model.proofs.law.example.premises_can_be_met.Goals as goal

pub returns-clause-copies : goal.returns-clause-copies
returns-clause-copies c = copies_made

pub returns-clause-local_run : goal.returns-clause-local_run
returns-clause-local_run c = local_run

pub returns-clause-paired : goal.returns-clause-paired
returns-clause-paired c = start_alike

pub returns-clause-run : goal.returns-clause-run
returns-clause-run c = run_here

pub returns-clause-other_run : goal.returns-clause-other_run
returns-clause-other_run c = run_there

pub returns-clause-closed : goal.returns-clause-closed
returns-clause-closed c = closed

pub returns-clause-all_listed : goal.returns-clause-all_listed
returns-clause-all_listed c = all_listed

pub returns-clause-restores : goal.returns-clause-restores
returns-clause-restores c = restores

pub returns-clause-same : goal.returns-clause-same
returns-clause-same c = left_the_same

pub returns-clause-local_call : goal.returns-clause-local_call
returns-clause-local_call c = call_is_local

pub returns-clause-restored_call : goal.returns-clause-restored_call
returns-clause-restored_call c = call_is_restored

pub returns-clause-own_call : goal.returns-clause-own_call
returns-clause-own_call c = own_entry

pub returns-clause-start : goal.returns-clause-start
returns-clause-start c = itself

pub returns-clause-answered_run : goal.returns-clause-answered_run
returns-clause-answered_run c = answered_run

pub returns-clause-own_run : goal.returns-clause-own_run
returns-clause-own_run c = own_run

pub returns-clause-mirrored : goal.returns-clause-mirrored
returns-clause-mirrored c = mirrored

pub returns-clause-faulted : goal.returns-clause-faulted
returns-clause-faulted c = one_faulted

pub returns-clause-restored_args : goal.returns-clause-restored_args
returns-clause-restored_args c = (each_local, each_own)

pub returns-clause-restored_args_run : goal.returns-clause-restored_args_run
returns-clause-restored_args_run c = relay_run
