use Rattle.std.proofs.Common.{sym, ◌∙◌}
use Rattle.nr_message.proofs.Unique.{call_is}
use Rattle.nr_message.proofs.law.texts_are_one.Goals as goal

pub returns-clause-call : goal.returns-clause-call
returns-clause-call c = λ m a b g h. call_is m a g ∙ sym (call_is m b h)
