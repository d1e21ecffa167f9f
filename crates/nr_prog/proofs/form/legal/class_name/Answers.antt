use Rattle.std.proofs.Common.{sym, ◌∙◌}
use Rattle.nr_prog.proofs.ClassTexts.{is_class, is_no_class, is_no_name}
use Rattle.nr_prog.proofs.form.legal.class_name.Goals as goal

pub returns-in_default-clause-name : goal.returns-in_default-clause-name
returns-in_default-clause-name c = is_no_name c.args.bytes.now (sym c.in_default.is ∙ c.in_ok-name.ensures.name)

pub returns-then-is_class_name-clause-name : goal.returns-then-is_class_name-clause-name
returns-then-is_class_name-clause-name c = is_class c.is_class_name.result c.in-Some.name c.args.bytes.now (sym c.in-Some.is ∙ c.in_ok-name.ensures.name) c.is_class_name.ensures c.if-is_class_name.true

pub returns-else-is_class_name-clause-name : goal.returns-else-is_class_name-clause-name
returns-else-is_class_name-clause-name c = is_no_class c.is_class_name.result c.in-Some.name c.args.bytes.now (sym c.in-Some.is ∙ c.in_ok-name.ensures.name) c.is_class_name.ensures c.if-is_class_name.false
