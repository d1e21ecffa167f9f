use Rattle.nr_names.specs.Numbers.{texts}
use Rattle.nr_link.proofs.LinkedPrograms.{names_at}
use Rattle.nr_link.proofs.linking.lay_out_classes.Goals as goal

pub check_classes-requires-clause-names : goal.check_classes-requires-clause-names
check_classes-requires-clause-names c = names_at c.args.classes c.in_ok-tables.tables (texts c.args.names.now) c.in_ok-tables.ensures.tables c.requires.names

pub lay_out-requires-clause-names : goal.lay_out-requires-clause-names
lay_out-requires-clause-names c = names_at c.args.classes c.in_ok-tables.tables (texts c.args.names.now) c.in_ok-tables.ensures.tables c.requires.names
