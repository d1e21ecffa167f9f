use Rattle.std.proofs.Common.{◌∙◌, ap}
use Rattle.nr_linked.specs.TypingFrames.{padded}
use Rattle.nr_linked.specs.TypingCalls.{initialised}
use Rattle.nr_verify_ops.proofs.Listing.{initialised_padded}
use Rattle.nr_verify_ops.proofs.places.Places.initialise.Goals as goal

pub returns : goal.returns
returns c = ap (λ ts. padded c.self.inside.count ts) c.initialise_listed.ensures
    ∙ (initialised_padded c.args.t c.args.«class» c.self.inside.count c.self.inside.listed.items ∙ ap (λ ts. initialised c.args.t c.args.«class» ts) c.self.view_is)
