use Rattle.std.proofs.Common.{◌∙◌, ap}
use Rattle.nr_linked.specs.TypingFrames.{padded}
use Rattle.nr_linked.specs.TypingLocals.{put}
use Rattle.nr_verify_ops.proofs.Listing.{stored}
use Rattle.nr_verify_ops.proofs.places.Places.put.Goals as goal

pub returns : goal.returns
returns c =
    ap (λ ts. padded c.self.inside.count ts) c.in_ok-put.ensures
    ∙ (stored c.args.i c.args.t c.self.inside.count c.self.inside.listed.items ∙ ap (λ ts. put c.args.i c.args.t ts) c.self.view_is)
