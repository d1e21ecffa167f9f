use Rattle.nr_verify.proofs.Within.{class_within}
use Rattle.nr_verify.proofs.program.names.Goals as goal

pub class_name-requires : goal.class_name-requires
class_name-requires c = class_within c.args.p.now c.tables-tables.ensures.facts.linked c.args.id c.args.method.now c.requires
