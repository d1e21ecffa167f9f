use Rattle.nr_answers.proofs.OneRequest.{refused_accepted}
use Rattle.nr_answers.proofs.OneRun.{one_length}
use Rattle.nr_answers.proofs.law.request.requests_have_one_length.Goals as goal

pub returns-clause-refused : goal.returns-clause-refused
returns-clause-refused c = λ p service body f one short refused accepted. refused_accepted p service body one short refused accepted

pub returns-clause-length : goal.returns-clause-length
returns-clause-length c = λ p service version body facts one short. one_length p facts one service version body short
