use Rattle.nr_model.proofs.Staying.{run_stays}
use Rattle.nr_model.proofs.law.size.runs_keep_lengths.Goals as goal

pub returns : goal.returns
returns c = run_stays
