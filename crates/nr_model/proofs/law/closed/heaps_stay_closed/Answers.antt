use Rattle.nr_model.proofs.Closed.{run_keeps_closed, restore_keeps_closed}
use Rattle.nr_model.proofs.law.closed.heaps_stay_closed.Goals as goal

pub returns-clause-runs : goal.returns-clause-runs
returns-clause-runs c = run_keeps_closed

pub returns-clause-restores : goal.returns-clause-restores
returns-clause-restores c = λ pairs h k r v w. restore_keeps_closed h r k pairs v w
