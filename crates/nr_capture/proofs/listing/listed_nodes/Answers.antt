use Rattle.std.proofs.Common.{◌∙◌, ap}
use Rattle.nr_capture.specs.Listed.{places_from}
use Rattle.nr_capture.proofs.Spreads.{places_list}
use Rattle.nr_capture.proofs.listing.listed_nodes.Goals as goal

pub returns : goal.returns
returns c =
    places_list c.args.program.now c.args.graph.now c.in_ok-flags.flags.items c.in_ok-places.places.items c.in_ok-flags.ensures
    (c.in_ok-places.ensures ∙ ap (places_from 0) c.as_slice.ensures.value)
