use Rattle.std.proofs.Common.{◌≡◌, take}
use Rattle.nr_capture.specs.Listed.{places_from}
use Rattle.nr_capture.proofs.listing.places_of.Given as goal

abbrev pub invariant-loop-place : goal.invariant-loop-place
invariant-loop-place l = l.places.items ≡ places_from 0 (take l.place l.flags)
