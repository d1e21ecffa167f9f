use Rattle.std.proofs.Common.{◌∙◌}
use Rattle.nr_names.specs.Numbers.{texts}
use Rattle.nr_link.proofs.Looked.{any_listed}
use Rattle.nr_link.proofs.fields.declares_key.Goals as goal

pub returns-in-Some : goal.returns-in-Some
returns-in-Some c =
    c.is_some.ensures
    ∙ any_listed c.args.tables.now (texts c.args.lookup.now.texts) c.args.class c.args.key c.get.result (c.get.ensures ∙ c.in-Some.ensures.kept.fields c.args.key)
