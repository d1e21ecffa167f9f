use Rattle.nr_verify_ops.proofs.frame.Frame.invoke.Goals as goal

pub call-requires-clause-params : goal.call-requires-clause-params
call-requires-clause-params c = (c.tables-tables.ensures.facts.methods c.in-Method.id c.in-Some.callee.now c.in-Some.ensures).few_params
