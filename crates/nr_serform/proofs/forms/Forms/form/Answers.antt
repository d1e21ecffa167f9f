use Rattle.std.proofs.Common.{◌≡◌, length, rules}
use Rattle.nr_serform.proofs.FormLaws.{form_is}
use Rattle.nr_serform.proofs.forms.Forms.form.Goals as goal

pub returns : goal.returns
returns c =
    let counted : c.len-last.result ≡ length c.self.inside.forms.items = search rules in
    form_is c.self.inside.program.now c.args.self.now c.self.inside.forms.items c.len-last.result c.args.«class» c.min-place.result c.index.result.now c.self.invariant
    c.self.view_is counted c.min-place.ensures c.index.ensures
