use Rattle.std.proofs.Common.{sym, ◌∙◌}
use Rattle.nr_prog.proofs.LegalLaws.{class_text}
use Rattle.nr_prog.proofs.form.legal.is_class_name.Goals as goal

pub returns-in-Some-clause-legal : goal.returns-in-Some-clause-legal
returns-in-Some-clause-legal c =
    class_text c.is_class_name.result c.in-Some.name c.args.bytes.now (sym c.in-Some.is ∙ c.in_ok-name.ensures.name) c.is_class_name.ensures
