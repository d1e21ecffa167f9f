use Rattle.nr_model.proofs.Reached.{run_keeps}
use Rattle.nr_model.proofs.law.reach.runs_change_what_they_reach.Goals as goal

pub returns : goal.returns
returns c = run_keeps
