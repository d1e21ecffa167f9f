use Rattle.nr_typelaws.proofs.ByHandFaults.{all_told}
use Rattle.nr_typelaws.proofs.law.faults_by_hand.Goals as goal

pub returns : goal.returns
returns c = all_told
