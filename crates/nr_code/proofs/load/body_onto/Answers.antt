use Rattle.std.proofs.Common.{[], ◌∷◌, ◌++◌, sym, subst}
use Rattle.nr_prog.specs.BodyText.{EachBody}
use Rattle.nr_code.proofs.Bodies.{one_more}
use Rattle.nr_code.proofs.load.body_onto.Goals as goal

pub returns-clause-found : goal.returns-clause-found
returns-clause-found c = λ ms each. subst (EachBody c.args.class.now (ms ++ c.args.method.now ∷ [])) (sym c.in_ok-push.ensures.ok)
    (one_more c.args.class.now ms c.args.bodies.now c.args.method.now c.in_ok-body.body each c.in_ok-body.ensures.found)
