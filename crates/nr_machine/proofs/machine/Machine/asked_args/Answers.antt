use Rattle.nr_machine.proofs.machine.Machine.asked_args.Goals as goal

pub operand_count-count-requires : goal.operand_count-count-requires
operand_count-count-requires c = (c.tables-facts.ensures.facts.methods c.called_method-method.result c.method.result.now c.method.ensures).few_params
