use Rattle.nr_names.specs.Numbers.{texts}
use Rattle.nr_link.proofs.Looked.{field_told}
use Rattle.nr_link.proofs.fields.declares_field.Goals as goal

pub returns-in-Some : goal.returns-in-Some
returns-in-Some c =
    field_told c.args.tables.now (texts c.args.lookup.now.texts) c.args.sought.now c.requires.sought c.args.class c.in-Some.key c.declares_key.result c.in-Some.ensures c.declares_key.ensures
