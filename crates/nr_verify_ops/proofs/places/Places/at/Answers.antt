use Rattle.std.proofs.Common.{◌∙◌, ap, sym}
use Rattle.nr_linked.specs.TypingLocals.{local_type}
use Rattle.nr_verify_ops.proofs.Listing.{local_padded}
use Rattle.nr_verify_ops.proofs.places.Places.at.Goals as goal

pub returns : goal.returns
returns c = c.local_type.ensures ∙ (ap (λ ts. local_type ts c.args.i) c.as_slice.ensures.value
    ∙ (sym (local_padded c.self.inside.count c.self.inside.listed.items c.args.i) ∙ ap (λ ts. local_type ts c.args.i) c.self.view_is))
