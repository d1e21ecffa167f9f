use Rattle.nr_answers.proofs.Saying.{said_in_turn}
use Rattle.nr_answers.proofs.Talking.{said_apart}
use Rattle.nr_answers.proofs.law.connection.frames_are_said_in_turn.Goals as goal

pub returns-clause-joined : goal.returns-clause-joined
returns-clause-joined c = λ p s h m after texts more said then first second. said_in_turn p s more then first second

pub returns-clause-apart : goal.returns-clause-apart
returns-clause-apart c = λ p s h after texts more text says.
    let a = said_apart p s h after texts more text says in (a.mid, a.front, a.back, a.first, a.second, a.whole)
