use Rattle.nr_answers.proofs.Talking.{talked}
use Rattle.nr_answers.proofs.ToCome.{nothing_to_come}
use Rattle.nr_answers.proofs.law.talk.talks_are_answered.Goals as goal

pub returns-clause-told : goal.returns-clause-told
returns-clause-told c = λ p s hello batches sent text facts short each few is conn. talked p facts s hello batches sent text short each few is conn

pub returns-clause-no_more : goal.returns-clause-no_more
returns-clause-no_more c = λ p s count text greeting rest replies peer talk short each many is.
    nothing_to_come p s peer count text greeting replies rest short each many is talk
