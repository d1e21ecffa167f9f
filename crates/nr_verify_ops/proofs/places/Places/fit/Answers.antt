use Rattle.std.proofs.Common.{◌∙◌, ap, sym}
use Rattle.nr_linked.specs.TypingFrames.{locals_fit}
use Rattle.nr_types.proofs.Padding.{fit_padded}
use Rattle.nr_verify_ops.proofs.places.Places.fit.Goals as goal

pub returns : goal.returns
returns c = c.locals_fit.ensures ∙ (ap (λ ts. locals_fit c.args.p.now ts c.args.us.now) c.as_slice.ensures.value
    ∙ (sym (fit_padded c.args.p.now c.self.inside.count c.self.inside.listed.items c.args.us.now) ∙ ap (λ ts. locals_fit c.args.p.now ts c.args.us.now) c.self.view_is))
