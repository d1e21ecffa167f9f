use Rattle.std.proofs.Common.{sym, ap, ◌∙◌}
use Rattle.std.specs.Prelude.{Ok, Err}
use Rattle.nr_linkrules.specs.declared.fault.LinkFault.TheVariants as faults
use Rattle.nr_linkrules.specs.SiteRules.{no_field, or_fault, place_in, slot_found}
use Rattle.nr_link.proofs.SiteFaults.{of_kind}
use Rattle.nr_link.proofs.sites.slots.slot_of_member.Goals as goal

pub returns-in-Some : goal.returns-in-Some
returns-in-Some c =
    let p = place_in c.args.tables.now c.args.info.now c.args.at in
    of_kind c.args.tables.now c.args.class.now.pool (slot_found c.args.tables.now p) c.args.named c.args.member c.in_ok-kind.kind c.sought_at-sought.result.name.now c.sought_at-sought.result.desc.now (Ok c.in-Some.found)
    c.in_ok-kind.ensures c.sought_at-sought.ensures.name c.sought_at-sought.ensures.desc (c.slot_found.ensures p ∙ ap (or_fault (no_field p)) c.in-Some.is)

pub returns-in_ok-class-in-None : goal.returns-in_ok-class-in-None
returns-in_ok-class-in-None c =
    let p = place_in c.args.tables.now c.args.info.now c.args.at in
    let e = c.in_ok-class-in-None.ensures in
    of_kind c.args.tables.now c.args.class.now.pool (slot_found c.args.tables.now p) c.args.named c.args.member c.in_ok-kind.kind c.sought_at-sought.result.name.now c.sought_at-sought.result.desc.now _
    c.in_ok-kind.ensures c.sought_at-sought.ensures.name c.sought_at-sought.ensures.desc
    (c.slot_found.ensures p ∙ ap (or_fault (no_field p)) c.in-None.is ∙ (λ i. Err (faults.NoField (sym e.name i) (sym e.method i) (sym e.at i))))
