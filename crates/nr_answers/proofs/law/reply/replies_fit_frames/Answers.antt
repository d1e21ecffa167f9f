use Rattle.nr_answers.proofs.Replied.{answer_short, reply_short}
use Rattle.nr_answers.proofs.law.reply.replies_fit_frames.Goals as goal

pub returns-clause-replies : goal.returns-clause-replies
returns-clause-replies c = λ p service version steps body text facts reply. reply_short p facts reply

pub returns-clause-answers : goal.returns-clause-answers
returns-clause-answers c = λ p service version body text facts answer. answer_short p facts answer
