use Rattle.nr_answers.proofs.OneReply.{answered_once}
use Rattle.nr_answers.proofs.OneRequest.{one_refusal}
use Rattle.nr_answers.proofs.law.request.requests_have_one_reply.Goals as goal

pub returns-clause-refusal : goal.returns-clause-refusal
returns-clause-refusal c = λ p service body f g one short a b. one_refusal p service body one short a b

pub returns-clause-reply : goal.returns-clause-reply
returns-clause-reply c = λ p service body facts one alone short. answered_once p facts one alone service body short
