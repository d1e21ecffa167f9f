use Rattle.nr_typelaws.proofs.Decides.{sound}
use Rattle.nr_verify.proofs.Methods.{no_fault, refused}
use Rattle.nr_verify.proofs.program.verify.Goals as goal

pub new-requires : goal.new-requires
new-requires c = sound c.args.program c.tables-tables.ensures.facts.laid_out (no_fault c.args.program c.in-Ok.ensures)

pub returns-in-Err-clause-exact : goal.returns-in-Err-clause-exact
returns-in-Err-clause-exact c = refused c.args.program c.tables-tables.ensures.facts.laid_out c.in-Err.fault c.in-Err.ensures
