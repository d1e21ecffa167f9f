use Rattle.std.proofs.Common.{◌∙◌, arith}
use Rattle.nr_linked.specs.declared.program.types.VType.TheVariants.{Top}
use Rattle.nr_types.proofs.Fitting.{local_is}
use Rattle.nr_types.proofs.frames.local_type.Goals as goal

pub returns-in-Some : goal.returns-in-Some
returns-in-Some c = c.in-Some.ensures.lookup.3.1 Top ∙ local_is c.args.locals.now c.args.i

pub returns-in-None : goal.returns-in-None
returns-in-None c = c.in-None.ensures.lookup.4 (omega arith) Top ∙ local_is c.args.locals.now c.args.i
