use Rattle.std.proofs.Common.{get_or, false, ap, ◌∙◌}
use Rattle.std.proofs.lemmas.List.{get_or_default}
use Rattle.nr_link.proofs.Once.{steps}
use Rattle.nr_link.proofs.superinterfaces.each_once.Goals as goal

pub loop-class-preserved : goal.loop-class-preserved
loop-class-preserved c =
    let s = get_or c.args.classes.now c.loop-class.class-index 0 in
    steps c.loop-class.once _ c.loop-class.seen _ c.args.classes.now _ s c.is_marked-new.result c.loop-class-test.true (get_or_default c.args.classes.now _ 0 s c.loop-class-test.true)
    (c.is_marked-new.ensures ∙ ap (λ bits. get_or bits s false) c.as_slice.ensures) c.in_ok-push_if.ensures c.mark.ensures c.loop-class.invariant
