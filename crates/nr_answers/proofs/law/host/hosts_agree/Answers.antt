use Rattle.nr_answers.proofs.Followed.{histories_agree}
use Rattle.nr_answers.proofs.OneReply.{answered_once}
use Rattle.nr_answers.proofs.law.host.hosts_agree.Goals as goal

pub returns-clause-once : goal.returns-clause-once
returns-clause-once c = λ p service version body events others turns again text other once one two long.
    histories_agree p service version body once events others turns again text other one two long

pub returns-clause-streams : goal.returns-clause-streams
returns-clause-streams c = λ p service body events others turns again text other facts one alone short a b long.
    histories_agree p service 1 body (answered_once p facts one alone service body short) events others turns again text other a b long
