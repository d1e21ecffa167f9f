use Rattle.std.proofs.Common.{arith, subst}
use Rattle.nr_base.specs.Place.{Place}
use Rattle.nr_base.specs.Clauses.{Gives}
use Rattle.nr_message.specs.Faults.{is_free}
use Rattle.nr_message.specs.declared.fault.MessageFault.TheVariants as faults
use Rattle.nr_message.specs.Reading.{call_at}
use Rattle.nr_message.proofs.Calls.{call_last, call_exhausts}
use Rattle.nr_message.proofs.Lasts.{gives_last, found_whole_last, only_whole_last}
use Rattle.nr_message.proofs.read.call.read_call.Goals as goal

pub returns-clause-found : goal.returns-clause-found
returns-clause-found c = found_whole_last is_free faults.Trailing call_last c.args.body.now c.read_parts.result (λ i. omega (arith, c.type_inv.body i)) (gives_last is_free faults.Trailing call_at call_exhausts c.args.body.now c.read_parts.result c.read_parts.new.cur (subst (λ (z : Place). Gives is_free c.read_parts.result c.read_parts.new.cur (call_at z)) c.new.ensures c.read_parts.ensures))

pub returns-clause-only : goal.returns-clause-only
returns-clause-only c = λ x g. only_whole_last is_free faults.Trailing call_last c.args.body.now c.read_parts.result x g (gives_last is_free faults.Trailing call_at call_exhausts c.args.body.now c.read_parts.result c.read_parts.new.cur (subst (λ (z : Place). Gives is_free c.read_parts.result c.read_parts.new.cur (call_at z)) c.new.ensures c.read_parts.ensures))

pub returns-clause-exact : goal.returns-clause-exact
returns-clause-exact c = gives_last is_free faults.Trailing call_at call_exhausts c.args.body.now c.read_parts.result c.read_parts.new.cur (subst (λ (z : Place). Gives is_free c.read_parts.result c.read_parts.new.cur (call_at z)) c.new.ensures c.read_parts.ensures)
