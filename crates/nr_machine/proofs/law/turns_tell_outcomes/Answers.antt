use Rattle.nr_machine.proofs.Turning.{going, outcome, answered}
use Rattle.nr_machine.proofs.law.turns_tell_outcomes.Goals as goal

pub returns-clause-going : goal.returns-clause-going
returns-clause-going c = λ s calls n x y h k answer from goes. going s calls n x y h k answer from goes

pub returns-clause-outcome : goal.returns-clause-outcome
returns-clause-outcome c = λ s calls n x y h k answer fate from goes f. outcome s calls n x y h k answer fate from goes f

pub returns-clause-answered : goal.returns-clause-answered
returns-clause-answered c = λ s calls x y h k answer a from r. answered s calls x y h k answer a from r
