use Rattle.nr_instrs.proofs.Codes.{decoded_are, decoded_in_order, decoded_give}
use Rattle.nr_instrs.proofs.code.decode_instrs.Goals as goal

pub returns-clause-found : goal.returns-clause-found
returns-clause-found c = decoded_are c.args.class.now.pool c.args.bytes.now c.instrs.result c.know.ensures.texts c.know.ensures.bytes c.instrs.ensures

pub returns-clause-only : goal.returns-clause-only
returns-clause-only c = λ is g targets. decoded_give c.args.class.now.pool c.args.bytes.now c.instrs.result is c.know.ensures.texts c.requires c.instrs.ensures g targets

pub returns-clause-order : goal.returns-clause-order
returns-clause-order c = decoded_in_order c.args.class.now.pool c.args.bytes.now c.instrs.result c.know.ensures.texts c.know.ensures.bytes c.instrs.ensures
