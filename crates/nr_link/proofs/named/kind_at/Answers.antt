use Rattle.std.proofs.Common.{sym, ◌∙◌}
use Rattle.nr_linkrules.specs.SiteRules.{class_bytes}
use Rattle.nr_link.proofs.ClassTexts.{kind_found, kind_lost}
use Rattle.nr_link.proofs.named.kind_at.Goals as goal

pub returns-in-Some : goal.returns-in-Some
returns-in-Some c =
    kind_found c.args.tables.now (class_bytes c.args.class.now.pool c.args.index) c.in-Some.kind (sym c.in-Some.is ∙ c.class_kind.ensures)

pub returns-in_ok-name_of-in-None : goal.returns-in_ok-name_of-in-None
returns-in_ok-name_of-in-None c =
    kind_lost c.args.tables.now (class_bytes c.args.class.now.pool c.args.index) c.in_ok-name_of-in-None.field-0 (sym c.in-None.is ∙ c.class_kind.ensures)
    (c.in_ok-name_of-in-None.ensures.name ∙ c.class_named.ensures.value)
