use Rattle.std.proofs.Common.{Ok, ap, subst}
use Rattle.std.proofs.lemmas.Result.{err_from_is_err_and}
use Rattle.nr_base.proofs.Laws.{ok_is}
use Rattle.nr_prog.specs.BodyText.{HasBodies}
use Rattle.nr_code.proofs.Files.{file_short}
use Rattle.nr_code.proofs.Bodies.{fails_any, same_loaded}
use Rattle.nr_code.proofs.load.load_class.Goals as goal

pub read_bodies-requires : goal.read_bodies-requires
read_bodies-requires c = file_short c.in_ok-class.class c.args.bytes.now c.in_ok-class.ensures.found.0

pub returns-in_err-bodies-clause-only : goal.returns-in_err-bodies-clause-only
returns-in_err-bodies-clause-only c = λ l reads has.
    let p = err_from_is_err_and c.from_residual-in_err-bodies.result c.from_residual-in_err-bodies.ensures.1 in
    let same = ok_is l.class c.in_ok-class.class (c.in_ok-class.ensures.only l.class reads) in
    rw (p.1, p.2) (fails_any c.in_err-bodies.field-0.0 l.bodies l (c.in_err-bodies.ensures.only l.bodies (subst (λ z. HasBodies z l.bodies) same has)))

pub returns-clause-only : goal.returns-clause-only
returns-clause-only c = λ l reads has.
    let same = ok_is l.class c.in_ok-class.class (c.in_ok-class.ensures.only l.class reads) in
    let bodies = ok_is l.bodies c.in_ok-bodies.bodies (c.in_ok-bodies.ensures.only l.bodies (subst (λ z. HasBodies z l.bodies) same has)) in
    ap (λ z. Ok z) (same_loaded c.in_ok-class.class c.in_ok-bodies.bodies l same bodies)
