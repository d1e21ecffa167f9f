use Rattle.std.specs.Prelude.{None, ◌≢◌}
use Rattle.std.specs.FinMap.{get}
use Rattle.nr_model.proofs.Reached.{Self}
use Rattle.nr_model.proofs.Printed.{closed_alike, printed_grows, printed_once, printed_steps, printed_ends, printed_comes}
use Rattle.nr_model.proofs.law.print.runs_print_in_order.Goals as goal

pub returns-clause-grows : goal.returns-clause-grows
returns-clause-grows c = λ p budget k l s xs ys closed held a b le. printed_grows p (Self (λ x. get s.heap x ≢ None)) s (closed_alike s closed held) budget k l xs ys a b le

pub returns-clause-one_text : goal.returns-clause-one_text
returns-clause-one_text c = λ p budget k s xs ys closed held a b. printed_once p (Self (λ x. get s.heap x ≢ None)) s (closed_alike s closed held) budget k xs ys a b

pub returns-clause-steps : goal.returns-clause-steps
returns-clause-steps c = λ p budget k s t xs closed held a r le. printed_steps p (Self (λ x. get s.heap x ≢ None)) s (closed_alike s closed held) budget k t xs a r le

pub returns-clause-ends : goal.returns-clause-ends
returns-clause-ends c = λ p budget k n f s t xs closed held a o le. printed_ends p (Self (λ x. get s.heap x ≢ None)) s (closed_alike s closed held) budget k n f t xs a o le

pub returns-clause-comes : goal.returns-clause-comes
returns-clause-comes c = λ p budget n k f s t o. printed_comes p s t budget n f o k
