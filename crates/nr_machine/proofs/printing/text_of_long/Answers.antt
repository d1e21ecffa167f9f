use Rattle.std.proofs.Common.{arith, subst, w64}
use Rattle.std.specs.Prelude.{FitsSigned}
use Rattle.nr_machine.proofs.Signed.{signed_some}
use Rattle.nr_machine.proofs.printing.text_of_long.Goals as goal

pub returns-clause-err : goal.returns-clause-err
returns-clause-err c = signed_some c.args.n (λ n e. omega (arith, (subst (λ z. FitsSigned w64 z) e c.ranges.n).sfits))
