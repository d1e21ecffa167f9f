use Rattle.std.proofs.Common.{sym, ap, ◌∙◌, cond, Some, None, Bool}
use Rattle.nr_cli.proofs.Names.{legal_name, no_name}
use Rattle.nr_cli.proofs.words.legal_name.Goals as goal

pub returns-in_default : goal.returns-in_default
returns-in_default c = no_name c.args.bytes.now (sym c.in_default.is ∙ c.in_ok-name.ensures)

pub returns-then-not-is_class_name : goal.returns-then-not-is_class_name
returns-then-not-is_class_name c =
    let legal = legal_name c.is_class_name.result c.in-Some.name c.args.bytes.now (sym c.in-Some.is ∙ c.in_ok-name.ensures) c.is_class_name.ensures in
    sym (ap (λ (b : Bool). cond b (Some c.in-Some.name) None) c.if-not-is_class_name.true) ∙ legal

pub returns : goal.returns
returns c =
    let legal = legal_name c.is_class_name.result c.in-Some.name c.args.bytes.now (sym c.in-Some.is ∙ c.in_ok-name.ensures) c.is_class_name.ensures in
    sym (ap (λ (b : Bool). cond b (Some c.in-Some.name) None) c.if-not-is_class_name.false) ∙ legal
