use Rattle.std.proofs.Common.{ap, ◌∙◌}
use Rattle.nr_prog.specs.TextForms.{forms_of, listed_form}
use Rattle.nr_prog.proofs.FormTests.{listed_at}
use Rattle.nr_prog.proofs.pool.view.Pool.form.Goals as goal

pub returns : goal.returns
returns c =
    c.form.ensures ∙ ap (λ fs. listed_form fs c.args.index) c.self.invariant.0
    ∙ ap (λ es. listed_form (forms_of es) c.args.index) c.self.view_is ∙ listed_at c.args.self.now c.args.index
