use Rattle.nr_answers.proofs.Examples.{three_bytes, three_jobs}
use Rattle.nr_answers.proofs.law.example.answers_worked_by_hand.Goals as goal

pub returns-clause-three_bytes : goal.returns-clause-three_bytes
returns-clause-three_bytes c = three_bytes

pub returns-clause-three_jobs : goal.returns-clause-three_jobs
returns-clause-three_jobs c = three_jobs
