use Rattle.std.proofs.Common.{◌≡◌, arith, of_z, to_z, w32}
use Rattle.std.proofs.lemmas.Int.{to_z-of_z}
use Rattle.nr_optable.specs.Arithmetic.{add}
use Rattle.nr_step.proofs.Increments.{incremented}
use Rattle.nr_step.proofs.variables.increment_variable.Goals as goal

pub returns-clause-leads : goal.returns-clause-leads
returns-clause-leads c = λ h ops.
    let m = to_z w32 (of_z w32 c.sum-made.result) in
    let s : m ≡ add w32 c.int_variable-n.result c.args.by = grind (arith, to_z-of_z, c.sum-made.ensures, c.from.ensures) in
    incremented h c.args.locals.now ops c.args.number c.args.by c.int_variable-n.result m c.int_variable-n.ensures s
