use Rattle.std.proofs.Common.{◌≡◌, false, sym, ap, ◌∙◌}
use Rattle.nr_base.specs.LegalNames.{class_from}
use Rattle.nr_base.proofs.ClassNames.{class_found, class_only}
use Rattle.nr_base.proofs.name.Name.is_class_name.Goals as goal

pub returns : goal.returns
returns c =
    let is : c.is_class.result ≡ class_from false c.args.self.now = c.is_class.ensures ∙ ap (class_from false) c.as_bytes.ensures.bytes in
    (λ yes. class_found c.args.self.now (sym is ∙ yes), λ legal. is ∙ class_only c.args.self.now legal)
