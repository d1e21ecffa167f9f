use Rattle.nr_model.proofs.Over.{run_over}
use Rattle.nr_model.proofs.law.over.runs_go_on_over_frames.Goals as goal

pub returns : goal.returns
returns c = run_over
