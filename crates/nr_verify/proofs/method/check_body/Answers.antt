use Rattle.nr_verify.proofs.Suits.{suited, maps, order, handlers}
use Rattle.nr_verify.proofs.method.check_body.Goals as goal

pub check_instrs-requires-clause-handlers : goal.check_instrs-requires-clause-handlers
check_instrs-requires-clause-handlers c = handlers c.args.p.now c.tables-tables.ensures.facts c.args.id c.args.method.now c.args.body.now c.requires.there c.requires.body

pub check_instrs-requires-clause-suited : goal.check_instrs-requires-clause-suited
check_instrs-requires-clause-suited c = suited c.args.p.now c.tables-tables.ensures.facts c.args.id c.args.method.now c.args.body.now c.requires.there c.requires.body

pub check_instrs-requires-clause-order : goal.check_instrs-requires-clause-order
check_instrs-requires-clause-order c = order c.args.p.now c.tables-tables.ensures.facts c.args.id c.args.method.now c.args.body.now c.requires.there c.requires.body

pub check_instrs-requires-clause-maps : goal.check_instrs-requires-clause-maps
check_instrs-requires-clause-maps c = maps c.args.p.now c.tables-tables.ensures.facts c.args.id c.args.method.now c.args.body.now c.requires.there c.requires.body
