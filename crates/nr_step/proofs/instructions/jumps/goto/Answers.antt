use Rattle.std.proofs.Common.{length, refl, sym, subst, ap}
use Rattle.nr_model.specs.Scripts.{GoTo, GoesTo, Runs}
use Rattle.nr_step.specs.Windows.{window}
use Rattle.nr_step.proofs.Jumps.{at_target, goto_branches, target_there}
use Rattle.nr_step.proofs.instructions.jumps.goto.Goals as goal

pub target-requires : goal.target-requires
target-requires c =
    let can = c.requires.can in
    target_there can.0 can.1 c.args.i.now can.2 (window can.3 can.4 c.args.stack.now c.args.depth) (length c.args.stack.now) (λ t k. GoTo t) (goto_branches can.0 can.1 c.args.i.now can.2 c.args.code c.requires.row c.requires.code) can.5

pub returns : goal.returns
returns c = λ P own found h ls n.
    subst (λ sc. Runs sc (window h ls c.args.stack.now c.args.depth) (GoesTo c.from-told.result) (window h ls c.args.stack.now c.args.depth))
    (sym (at_target P own c.args.i.now found (λ t k. GoTo t) c.target.result (goto_branches P own c.args.i.now found c.args.code c.requires.row c.requires.code) c.target.ensures n))
    (ap GoesTo c.from-told.ensures, refl)
