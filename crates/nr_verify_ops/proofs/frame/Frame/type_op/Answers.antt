use Rattle.std.proofs.Common.{ap, subst, ◌∙◌}
use Rattle.std.specs.Prelude.{None, Err, Result}
use Rattle.nr_linked.specs.Sites.{Site}
use Rattle.nr_linked.specs.TypingRules.{type_op}
use Rattle.nr_typelaws.proofs.Suited.{speaks}
use Rattle.nr_verify_ops.specs.Answers.{IsAnswer}
use Rattle.nr_verify_ops.specs.declared.error.RuleError.{RuleError}
use Rattle.nr_verify_ops.proofs.frame.Frame.type_op.Goals as goal

pub unreachable-requires : goal.unreachable-requires
unreachable-requires c =
    let s : Site = record { instr = c.args.instr.now; resolved = c.args.found; next = None } in
    (speaks s.instr.row.family c.args.p.now c.args.method.now s c.args.self.now c.requires.suited).not_none
    (subst (λ (r : Result (Unit {0}) RuleError). IsAnswer {A = Unit {0}} r c.rule.new.self (type_op c.args.p.now c.args.method.now s c.args.self.now))
    (c.in-Err-NoRule.is ∙ ap Err c.in-Err-NoRule.field-0-is) (c.rule.ensures None))
