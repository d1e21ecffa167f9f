use Rattle.nr_capture.proofs.PlantsExist.{plants_exist}
use Rattle.nr_capture.proofs.law.graphs_can_be_planted.Goals as goal

pub returns : goal.returns
returns c = plants_exist
