use Rattle.nr_answers.proofs.Pacing.{cut_can_say, paced_can_say}
use Rattle.nr_answers.proofs.law.responder.paced_responders_can_say.Goals as goal

pub returns-clause-good : goal.returns-clause-good
returns-clause-good c = paced_can_say

pub returns-clause-cut : goal.returns-clause-cut
returns-clause-cut c = cut_can_say
