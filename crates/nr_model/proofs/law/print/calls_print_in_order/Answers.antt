use Rattle.nr_model.proofs.Printed.{call_printed_grows, call_printed_once, call_printed_ends, call_printed_comes}
use Rattle.nr_model.proofs.law.print.calls_print_in_order.Goals as goal

pub returns-clause-grows : goal.returns-clause-grows
returns-clause-grows c = λ p h m args budget k l xs ys closed held a b le. call_printed_grows p h m args closed held budget k l xs ys a b le

pub returns-clause-one_text : goal.returns-clause-one_text
returns-clause-one_text c = λ p h m args budget k xs ys closed held a b. call_printed_once p h m args closed held budget k xs ys a b

pub returns-clause-ends : goal.returns-clause-ends
returns-clause-ends c = λ p h m args budget k n f t xs closed held a o le. call_printed_ends p h m args closed held budget k n f t xs a o le

pub returns-clause-comes : goal.returns-clause-comes
returns-clause-comes c = λ p h m args budget n k f t o. call_printed_comes p h m args budget n f t o k
