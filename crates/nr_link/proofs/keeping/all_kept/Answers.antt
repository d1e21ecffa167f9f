use Rattle.std.proofs.Common.{◌+◌, List, sym, subst, arith}
use Rattle.nr_names.specs.Numbers.{texts}
use Rattle.nr_link.specs.declared.lookup.Kept.{Kept}
use Rattle.nr_link.proofs.KeptMembers.{KeptTo, keeps_more}
use Rattle.nr_link.proofs.keeping.all_kept.Goals as goal

pub loop-place-preserved : goal.loop-place-preserved
loop-place-preserved c =
    subst (λ (all : List Kept). KeptTo c.args.tables.now (texts c.args.known.now) all (c.loop-place.place + 1)) (sym c.in_ok-push.ensures.ok)
    (keeps_more c.args.tables.now (texts c.args.known.now) c.loop-place.all c.in_ok-kept.field-0 c.loop-place.place
    (omega (arith, c.loop-place-test.true, c.len-place-end.ensures, c.requires.few_classes)) c.in_ok-kept.ensures.kept c.loop-place.invariant)
