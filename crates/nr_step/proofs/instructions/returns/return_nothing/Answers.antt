use Rattle.std.proofs.Common.{refl, sym, subst}
use Rattle.nr_model.specs.Scripts.{Gave, Runs}
use Rattle.std.specs.Prelude.{None}
use Rattle.nr_step.specs.Windows.{window}
use Rattle.nr_step.proofs.Returning.{nothing_is}
use Rattle.nr_step.proofs.instructions.returns.return_nothing.Goals as goal

pub returns : goal.returns
returns c = λ told P own found h ls.
    let w = window h ls c.args.stack.now c.args.depth in
    (refl, λ n. subst (λ sc. Runs sc w (Gave None) w) (sym (nothing_is P own c.args.i.now found c.requires.row n)) (refl, refl))
