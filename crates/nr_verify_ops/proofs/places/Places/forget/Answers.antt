use Rattle.std.proofs.Common.{◌∙◌, ap}
use Rattle.nr_linked.specs.TypingFrames.{padded}
use Rattle.nr_linked.specs.TypingObjects.{forgotten}
use Rattle.nr_verify_ops.proofs.Listing.{forgotten_padded}
use Rattle.nr_verify_ops.proofs.places.Places.forget.Goals as goal

pub returns : goal.returns
returns c = ap (λ ts. padded c.self.inside.count ts) c.forget_listed.ensures
    ∙ (forgotten_padded c.args.at c.self.inside.count c.self.inside.listed.items ∙ ap (λ ts. forgotten c.args.at ts) c.self.view_is)
