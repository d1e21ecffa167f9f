use Rattle.nr_linked.proofs.Places.{found_within}
use Rattle.nr_linked.specs.Programs.{methods_of}
use Rattle.nr_linked.specs.Selection.{is_called}
use Rattle.nr_names.specs.Numbers.{texts}
use Rattle.nr_link.proofs.Looked.{declared_told}
use Rattle.nr_link.proofs.methods.declared.Goals as goal

pub returns-in-Some-clause-method : goal.returns-in-Some-clause-method
returns-in-Some-clause-method c =
    declared_told c.args.tables.now (texts c.args.lookup.now.texts) c.args.sought.now c.requires.sought c.args.class c.in-Some.key c.declared_by_key.result c.in-Some.ensures c.declared_by_key.ensures

pub returns-in-Some-clause-within : goal.returns-in-Some-clause-within
returns-in-Some-clause-within c =
    found_within (is_called c.args.sought.now.name.now c.args.sought.now.desc.now) c.args.tables.now.methods (methods_of c.args.tables.now c.args.class) c.declared_by_key.result
    (declared_told c.args.tables.now (texts c.args.lookup.now.texts) c.args.sought.now c.requires.sought c.args.class c.in-Some.key c.declared_by_key.result c.in-Some.ensures c.declared_by_key.ensures)

pub returns-in-None-clause-within : goal.returns-in-None-clause-within
returns-in-None-clause-within c =
    found_within (is_called c.args.sought.now.name.now c.args.sought.now.desc.now) c.args.tables.now.methods (methods_of c.args.tables.now c.args.class) c.declared_by_texts.result c.declared_by_texts.ensures
