use Rattle.nr_message.proofs.Backs.{hello_back, call_back, reply_back}
use Rattle.nr_message.proofs.law.texts_are_read.Goals as goal

pub returns-clause-hello : goal.returns-clause-hello
returns-clause-hello c = λ m bytes g. hello_back m bytes g

pub returns-clause-call : goal.returns-clause-call
returns-clause-call c = λ m bytes g. call_back m bytes g

pub returns-clause-reply : goal.returns-clause-reply
returns-clause-reply c = λ m bytes g. reply_back m bytes g
