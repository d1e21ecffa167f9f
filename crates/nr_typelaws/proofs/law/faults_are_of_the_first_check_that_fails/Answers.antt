use Rattle.nr_typelaws.proofs.Failing.{fails_from}
use Rattle.nr_typelaws.proofs.law.faults_are_of_the_first_check_that_fails.Goals as goal

pub returns : goal.returns
returns c = λ p m is rs comes e q. fails_from p m is rs comes e q
