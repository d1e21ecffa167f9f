use Rattle.nr_capture.proofs.Spreads.{places_next}
use Rattle.nr_capture.proofs.listing.places_of.Goals as goal

pub loop-place-preserved : goal.loop-place-preserved
loop-place-preserved c = places_next c.args.flags.now _ _ c.loop-place.place _ c.loop-place-test.true c.loop-place.invariant c.in_ok-push_if.ensures
