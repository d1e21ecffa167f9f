use Rattle.std.proofs.Common.{sym, ap, ◌∙◌}
use Rattle.std.specs.Prelude.{Ok, Err}
use Rattle.nr_linked.specs.declared.program.tables.Resolved.TheVariants as resolved
use Rattle.nr_linkrules.specs.declared.fault.LinkFault.TheVariants as faults
use Rattle.nr_instrs.specs.Checks.{then_on}
use Rattle.nr_linkrules.specs.SiteRules.{callable, method_found, no_method, or_fault, place_in}
use Rattle.nr_link.proofs.SiteFaults.{call_found, call_refused, of_kind}
use Rattle.nr_link.proofs.sites.calls.call_of_member.Goals as goal

pub returns-in-Some : goal.returns-in-Some
returns-in-Some c =
    let p = place_in c.args.tables.now c.args.info.now c.args.at in
    of_kind c.args.tables.now c.args.class.now.pool (method_found c.args.tables.now p c.args.code) c.args.named c.args.member c.in_ok-kind.kind c.sought_at-sought.result.name.now c.sought_at-sought.result.desc.now
    (Ok (resolved.Method c.in-Some.method c.in-Some.holder)) c.in_ok-kind.ensures c.sought_at-sought.ensures.name c.sought_at-sought.ensures.desc
    (c.method_named.ensures p c.args.code
    ∙ call_found c.args.tables.now p c.args.code c.in-Some.method c.in-Some.holder c.method_named.result c.is_callable.result c.in-Some.is c.is_callable.ensures c.if-is_callable.true)

pub returns-in_ok-class-in-Some-2 : goal.returns-in_ok-class-in-Some-2
returns-in_ok-class-in-Some-2 c =
    let p = place_in c.args.tables.now c.args.info.now c.args.at in
    let e = c.in_ok-class-in-Some-2.ensures in
    of_kind c.args.tables.now c.args.class.now.pool (method_found c.args.tables.now p c.args.code) c.args.named c.args.member c.in_ok-kind.kind c.sought_at-sought.result.name.now c.sought_at-sought.result.desc.now
    _ c.in_ok-kind.ensures c.sought_at-sought.ensures.name c.sought_at-sought.ensures.desc
    (c.method_named.ensures p c.args.code
    ∙ call_refused c.args.tables.now p c.args.code c.in-Some.method c.in-Some.holder c.method_named.result c.is_callable.result c.in-Some.is c.is_callable.ensures c.if-is_callable.false
    ∙ (λ i. Err (faults.MemberKind (sym e.name i) (sym e.method i) (sym e.at i))))

pub returns-in_ok-class-in-None : goal.returns-in_ok-class-in-None
returns-in_ok-class-in-None c =
    let p = place_in c.args.tables.now c.args.info.now c.args.at in
    let e = c.in_ok-class-in-None.ensures in
    of_kind c.args.tables.now c.args.class.now.pool (method_found c.args.tables.now p c.args.code) c.args.named c.args.member c.in_ok-kind.kind c.sought_at-sought.result.name.now c.sought_at-sought.result.desc.now
    _ c.in_ok-kind.ensures c.sought_at-sought.ensures.name c.sought_at-sought.ensures.desc
    (c.method_named.ensures p c.args.code
    ∙ ap (λ (found : Rattle.std.specs.Prelude.Option (Rattle.std.specs.Prelude.ℕ × Rattle.std.specs.Prelude.ℕ)). then_on (or_fault (no_method p) found) (λ m. callable c.args.tables.now p c.args.code m.1 m.0)) c.in-None.is
    ∙ (λ i. Err (faults.NoMethod (sym e.name i) (sym e.method i) (sym e.at i))))
