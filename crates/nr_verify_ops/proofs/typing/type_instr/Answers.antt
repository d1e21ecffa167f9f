use Rattle.std.proofs.Common.{sym, ap, subst, ◌∙◌}
use Rattle.std.specs.Prelude.{Err}
use Rattle.nr_linked.specs.Sites.{Site, site_at}
use Rattle.nr_linked.specs.TypingChecks.{Leaves}
use Rattle.nr_linked.specs.TypingFrames.{TypeFrame}
use Rattle.nr_linked.specs.TypingRules.{type_op}
use Rattle.nr_linked.specs.WellTyped.{mapped_frame}
use Rattle.nr_verify_ops.specs.Answers.{IsTypedWith}
use Rattle.nr_verify_ops.proofs.SiteOf.{in_order, own_site, suited_here, site_is, same_error}
use Rattle.nr_verify_ops.proofs.typing.type_instr.Goals as goal

pub site_at-requires : goal.site_at-requires
site_at-requires c = in_order c.args.p.now c.tables-tables.ensures.facts c.args.id c.args.method.now c.requires.there

pub type_op-requires-clause-order : goal.type_op-requires-clause-order
type_op-requires-clause-order c = in_order c.args.p.now c.tables-tables.ensures.facts c.args.id c.args.method.now c.requires.there

pub type_op-requires-clause-suited : goal.type_op-requires-clause-suited
type_op-requires-clause-suited c = suited_here c.args.p.now c.tables-tables.ensures.facts c.args.id c.args.method.now c.args.instr.now c.in-Some.field-0-0 c.in-Some.found
    c.requires.there c.requires.own c.in-Some.ensures

pub returns-in-Err : goal.returns-in-Err
returns-in-Err c = λ s e.
    let own = own_site c.args.p.now c.args.id c.args.method.now c.args.instr.now c.requires.there c.requires.own in
    let site = site_is (site_at c.args.method.now c.args.instr.now.at) s own.0 c.args.instr.now c.in-Some.field-0-0 c.in-Some.found e own.1 own.2 c.in-Some.ensures in
    subst (λ (s : Site). IsTypedWith (Err c.in-Err.error) (type_op c.args.p.now c.args.method.now s (mapped_frame c.args.method.now c.args.frame.now))) site
    (subst (λ (f : TypeFrame). IsTypedWith (Err c.in-Err.error) (type_op c.args.p.now c.args.method.now (record { instr = c.args.instr.now; resolved = c.in-Some.found; next = s.next }) f)) c.in_ok-working.ensures
    (same_error c.in-Err.error c.type_op.new.self _ (c.in-Err.ensures s.next)))

pub returns : goal.returns
returns c = λ s e.
    let own = own_site c.args.p.now c.args.id c.args.method.now c.args.instr.now c.requires.there c.requires.own in
    let site = site_is (site_at c.args.method.now c.args.instr.now.at) s own.0 c.args.instr.now c.in-Some.field-0-0 c.in-Some.found e own.1 own.2 c.in-Some.ensures in
    ap (λ (s : Site). type_op c.args.p.now c.args.method.now s (mapped_frame c.args.method.now c.args.frame.now)) (sym site)
    ∙ (ap (λ (f : TypeFrame). type_op c.args.p.now c.args.method.now (record { instr = c.args.instr.now; resolved = c.in-Some.found; next = s.next }) f) (sym c.in_ok-working.ensures)
    ∙ (c.in_default-type_op.ensures s.next ∙ ap Leaves (sym c.in_ok-left.ensures)))
