use Rattle.std.proofs.Common.{refl, sym, subst}
use Rattle.std.specs.Prelude.{Some}
use Rattle.nr_model.specs.Scripts.{GoesTo, Runs}
use Rattle.nr_step.specs.Windows.{window}
use Rattle.nr_step.proofs.Returning.{nop_is}
use Rattle.nr_step.proofs.instructions.constants.nop.Goals as goal

pub returns : goal.returns
returns c = λ told P own found h ls n.
    let w = window h ls c.args.stack.now c.args.depth in
    subst (λ sc. Runs sc w (GoesTo n) w) (sym (nop_is P own c.args.i.now found c.requires.row (Some n))) (refl, refl)
